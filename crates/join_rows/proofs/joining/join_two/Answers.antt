use Rattle.join_rows.proofs.RowLemmas.{new_number, of_join}
use Rattle.join_rows.proofs.joining.join_two.Goals as goal

pub join-requires-clause-chunk : goal.join-requires-clause-chunk
join-requires-clause-chunk c = (λ has. new_number c.requires.pieces.4 has, λ has. new_number c.requires.pieces.5 has)

pub join-requires-clause-pieces : goal.join-requires-clause-pieces
join-requires-clause-pieces c = (c.requires.pieces.0, c.requires.pieces.1, c.requires.pieces.3, c.requires.pieces.4.are, c.requires.pieces.5.are)

pub returns-clause-pieces : goal.returns-clause-pieces
returns-clause-pieces c tokens more from has also below = of_join c.args.arrows.now.0 c.args.left c.args.right c.in_ok-joined.joined tokens more from c.args.chunk c.in_ok-joined.ensures.chunks (c.in_ok-joined.ensures.pieces tokens more has.are also.are) below has also
