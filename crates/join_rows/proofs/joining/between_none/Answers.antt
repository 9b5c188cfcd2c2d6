use Rattle.std.proofs.Common.{◌∙◌, arith}
use Rattle.join_rows.proofs.RowLemmas.{are_apart, beside, no_part, sides, whole}
use Rattle.join_rows.proofs.joining.between_none.Goals as goal

pub join_two-requires-clause-apart : goal.join_two-requires-clause-apart
join_two-requires-clause-apart c =
    let are = beside c.args.arrows.now.0 c.in_ok-left.ensures.tables c.in_ok-right.ensures.tables c.in_ok-right.last (omega (arith, c.in_ok-middle.ensures.next)) (omega (arith, c.in_ok-middle.ensures.next)) (omega (arith, c.in_ok-right.ensures.next)) (omega arith) c.in_ok-left.ensures.pieces c.in_ok-right.ensures.pieces in
    are_apart are

pub join_two-requires-clause-pieces : goal.join_two-requires-clause-pieces
join_two-requires-clause-pieces c =
    let are = beside c.args.arrows.now.0 c.in_ok-left.ensures.tables c.in_ok-right.ensures.tables c.in_ok-right.last (omega (arith, c.in_ok-middle.ensures.next)) (omega (arith, c.in_ok-middle.ensures.next)) (omega (arith, c.in_ok-right.ensures.next)) (omega arith) c.in_ok-left.ensures.pieces c.in_ok-right.ensures.pieces in
    sides are c.args.tokens.now (no_part c.args.tokens.now) c.requires.few

pub returns-clause-pieces : goal.returns-clause-pieces
returns-clause-pieces c =
    let are = beside c.args.arrows.now.0 c.in_ok-left.ensures.tables c.in_ok-right.ensures.tables c.in_ok-right.last (omega (arith, c.in_ok-middle.ensures.next)) (omega (arith, c.in_ok-middle.ensures.next)) (omega (arith, c.in_ok-right.ensures.next)) (omega arith) c.in_ok-left.ensures.pieces c.in_ok-right.ensures.pieces in
    whole are c.args.arrows.now.0 (c.in_ok-right.ensures.tables ∙ c.in_ok-left.ensures.tables) c.args.tokens.now c.in_ok-next.next (no_part c.args.tokens.now) c.in_ok-next.ensures.next c.in_ok-joined.ensures.pieces
