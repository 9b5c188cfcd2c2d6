use Rattle.std.proofs.Common.{◌<◌, length, take, drop, sym, ap, ◌∙◌, arith}
use Rattle.piece_blocks.specs.Blocks.{Filling, piece_at}
use Rattle.piece_blocks.proofs.CutLemmas.{length-cut, reads}
use Rattle.piece_blocks.proofs.block.Block.kids.Goals as goal

pub index-head-requires : goal.index-head-requires
index-head-requires c =
    let cut = length-cut c.self.inside.heads.items c.self.inside.floors.items c.self.inside.kids.items in
    let same = ap (λ (v : Filling). length v.closed) c.self.view_is in
    omega (arith, c.self.inside.heads.ok.0, cut, same, c.requires)

pub part-requires : goal.part-requires
part-requires c =
    let inside : c.args.index < length c.self.inside.heads.items =
    let cut = length-cut c.self.inside.heads.items c.self.inside.floors.items c.self.inside.kids.items in
    let same = ap (λ (v : Filling). length v.closed) c.self.view_is in
    omega (arith, cut, same, c.requires) in
    let at = reads c.self.inside.heads.items c.self.inside.floors.items c.self.inside.kids.items c.self.inside.closed_floors c.self.inside.closed_kids c.args.index c.index-head.result.now c.self.invariant inside c.index-head.ensures in
    omega (arith, at.kids_end, c.deref.ensures.len, c.self.inside.kids.ok.0)

pub returns : goal.returns
returns c =
    let inside : c.args.index < length c.self.inside.heads.items =
    let cut = length-cut c.self.inside.heads.items c.self.inside.floors.items c.self.inside.kids.items in
    let same = ap (λ (v : Filling). length v.closed) c.self.view_is in
    omega (arith, cut, same, c.requires) in
    c.part.ensures
    ∙ ap (λ l. take c.index-head.result.now.kids (drop c.index-head.result.now.kids_from l)) c.deref.ensures.value
    ∙ sym (ap (λ p. p.kids) (reads c.self.inside.heads.items c.self.inside.floors.items c.self.inside.kids.items c.self.inside.closed_floors c.self.inside.closed_kids c.args.index c.index-head.result.now c.self.invariant inside c.index-head.ensures).is)
    ∙ ap (λ (v : Filling). (piece_at v.closed c.args.index).kids) c.self.view_is
