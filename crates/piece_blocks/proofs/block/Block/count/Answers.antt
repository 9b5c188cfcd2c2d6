use Rattle.std.proofs.Common.{length, ap, arith}
use Rattle.piece_blocks.specs.Blocks.{Filling}
use Rattle.piece_blocks.proofs.CutLemmas.{length-cut}
use Rattle.piece_blocks.proofs.block.Block.count.Goals as goal

pub returns : goal.returns
returns c =
    let cut = length-cut c.self.inside.heads.items c.self.inside.floors.items c.self.inside.kids.items in
    let same = ap (λ (v : Filling). length v.closed) c.self.view_is in
    omega (arith, c.len.ensures, c.self.inside.heads.ok.0, cut, same)
