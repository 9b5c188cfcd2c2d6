use Rattle.std.proofs.Common.{◌∙◌, sym, subst, arith}
use Rattle.lawful_theory.specs.Lawful.{IsLawful}
use Rattle.join_rows.proofs.RowLemmas.{are_apart, beside, part_numbers, part_shorter, two_parts, sides, whole}
use Rattle.join_rows.proofs.joining.+joined_pieces.Goals as goal

pub joined_pieces-requires-2 : goal.joined_pieces-requires-2
joined_pieces-requires-2 t c =
    let shorter = part_shorter c.args.tokens.now c.parting-place.result c.parting-place.ensures.above c.parting-place.ensures.below in
    (omega (arith, shorter), (subst IsLawful (sym c.in_ok-left.ensures.tables) c.requires.lawful, (omega (arith, shorter, c.requires.few), (part_numbers c.args.tokens.now c.parting-place.result c.requires.numbered, c.requires.long))))

pub join_two-requires-clause-apart : goal.join_two-requires-clause-apart
join_two-requires-clause-apart t c =
    let are = beside c.args.arrows.now.0 c.in_ok-left.ensures.tables c.in_ok-right.ensures.tables c.in_ok-right.last (omega (arith, c.in_ok-left.ensures.next)) (omega arith) (omega (arith, c.in_ok-right.ensures.next)) (omega arith) c.in_ok-left.ensures.pieces c.in_ok-right.ensures.pieces in
    are_apart are

pub join_two-requires-clause-pieces : goal.join_two-requires-clause-pieces
join_two-requires-clause-pieces t c =
    let are = beside c.args.arrows.now.0 c.in_ok-left.ensures.tables c.in_ok-right.ensures.tables c.in_ok-right.last (omega (arith, c.in_ok-left.ensures.next)) (omega arith) (omega (arith, c.in_ok-right.ensures.next)) (omega arith) c.in_ok-left.ensures.pieces c.in_ok-right.ensures.pieces in
    sides are c.args.tokens.now (two_parts c.args.tokens.now c.parting-place.result (let inside = c.parting-place.ensures.below in omega (arith, inside))) c.requires.few

pub returns-clause-pieces : goal.returns-clause-pieces
returns-clause-pieces t c =
    let are = beside c.args.arrows.now.0 c.in_ok-left.ensures.tables c.in_ok-right.ensures.tables c.in_ok-right.last (omega (arith, c.in_ok-left.ensures.next)) (omega arith) (omega (arith, c.in_ok-right.ensures.next)) (omega arith) c.in_ok-left.ensures.pieces c.in_ok-right.ensures.pieces in
    whole are c.args.arrows.now.0 (c.in_ok-right.ensures.tables ∙ c.in_ok-left.ensures.tables) c.args.tokens.now c.in_ok-next.next (two_parts c.args.tokens.now c.parting-place.result (let inside = c.parting-place.ensures.below in omega (arith, inside))) c.in_ok-next.ensures.next c.in_ok-joined.ensures.pieces
