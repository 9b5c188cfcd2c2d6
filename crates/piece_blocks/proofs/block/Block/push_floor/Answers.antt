use Rattle.std.proofs.Common.{[], ◌∷◌, ap, ◌∙◌, arith}
use Rattle.piece_blocks.specs.Blocks.{Filling, cut_pieces}
use Rattle.piece_blocks.proofs.CutLemmas.{cut_floor}
use Rattle.piece_blocks.proofs.block.Block.push_floor.Goals as goal

pub returns-clause-closed : goal.returns-clause-closed
returns-clause-closed c =
    ap (λ l. cut_pieces c.self.inside.heads.items l c.self.inside.kids.items) c.in_ok-push.ensures.items
    ∙ cut_floor c.self.inside.heads.items c.self.inside.floors.items (c.args.floor ∷ []) c.self.inside.kids.items (omega (arith, c.self.invariant.floors_are, c.self.invariant.floors_fit)) (omega (arith, c.self.invariant.kids_are, c.self.invariant.kids_fit))
    ∙ ap (λ (v : Filling). v.closed) c.self.view_is
