use Rattle.std.proofs.Common.{◌+◌, sym, subst}
use Rattle.piece_lists.specs.Lists.{Stored}
use Rattle.join_rows.specs.Rows.{HasPieces}
use Rattle.join_rows.proofs.RowLemmas.{of_segment}
use Rattle.join_rows.proofs.joining.pieces_of.Goals as goal

pub returns-clause-pieces : goal.returns-clause-pieces
returns-clause-pieces c =
    let segment = c.in_ok-segment.segment in
    subst (λ (v : Stored). HasPieces c.args.arrows.now.0 v c.args.tokens.now c.args.chunk (c.args.chunk + 1)) (sym c.in_ok-pieces.ensures) (of_segment c.args.arrows.now.0 (record { closed = segment.block.closed; store = segment.store }) c.args.tokens.now c.args.chunk c.in_ok-segment.ensures.chunk c.in_ok-segment.ensures.pieces)
