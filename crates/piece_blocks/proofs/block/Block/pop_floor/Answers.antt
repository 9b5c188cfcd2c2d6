use Rattle.std.proofs.Common.{◌-◌, length, vec_len, ap, ◌∙◌, arith}
use Rattle.std.proofs.lemmas.List.{length-drop}
use Rattle.piece_blocks.specs.Blocks.{Filling, cut_pieces}
use Rattle.piece_blocks.proofs.CutLemmas.{cut_fewer}
use Rattle.piece_blocks.proofs.block.Block.pop_floor.Goals as goal

pub returns-clause-closed : goal.returns-clause-closed
returns-clause-closed c =
    let floors = c.self.inside.floors.items in
    let left = ap (λ (v : Filling). length v.floors) c.self.view_is in
    let len = length-drop c.self.inside.closed_floors floors in
    ap (λ l. cut_pieces c.self.inside.heads.items l c.self.inside.kids.items) c.pop.ensures.rest
    ∙ cut_fewer c.self.inside.heads.items floors c.self.inside.kids.items (vec_len c.self.inside.floors - 1) (omega (arith, c.self.invariant.kids_are, c.self.invariant.kids_fit)) (omega (arith, c.self.invariant.floors_are, c.self.invariant.floors_fit, left, len, c.requires, c.self.inside.floors.ok.0)) (omega (arith, c.self.inside.floors.ok.0))
    ∙ ap (λ (v : Filling). v.closed) c.self.view_is
