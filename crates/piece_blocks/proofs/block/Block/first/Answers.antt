use Rattle.std.proofs.Common.{◌<◌, length, sym, ap, ◌∙◌, arith}
use Rattle.piece_blocks.specs.Blocks.{Filling, piece_at}
use Rattle.piece_blocks.proofs.CutLemmas.{length-cut, reads}
use Rattle.piece_blocks.proofs.block.Block.first.Goals as goal

pub index-requires : goal.index-requires
index-requires c =
    let cut = length-cut c.self.inside.heads.items c.self.inside.floors.items c.self.inside.kids.items in
    let same = ap (λ (v : Filling). length v.closed) c.self.view_is in
    omega (arith, c.self.inside.heads.ok.0, cut, same, c.requires)

pub returns : goal.returns
returns c =
    let inside : c.args.index < length c.self.inside.heads.items =
    let cut = length-cut c.self.inside.heads.items c.self.inside.floors.items c.self.inside.kids.items in
    let same = ap (λ (v : Filling). length v.closed) c.self.view_is in
    omega (arith, cut, same, c.requires) in
    sym (ap (λ p. p.first) (reads c.self.inside.heads.items c.self.inside.floors.items c.self.inside.kids.items c.self.inside.closed_floors c.self.inside.closed_kids c.args.index c.index.result.now c.self.invariant inside c.index.ensures).is) ∙ ap (λ (v : Filling). (piece_at v.closed c.args.index).first) c.self.view_is
