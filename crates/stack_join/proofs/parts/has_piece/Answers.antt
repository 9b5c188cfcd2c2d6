use Rattle.std.proofs.Common.{sym, ap, ◌∙◌, arith}
use Rattle.std.proofs.lemmas.List.{take_all}
use Rattle.piece_lists.specs.Lists.{pieces_in}
use Rattle.stack_join.proofs.PartLemmas.{none_more, some_in}
use Rattle.stack_join.proofs.parts.has_piece.Goals as goal

pub returns-then-part-count-clause-some : goal.returns-then-part-count-clause-some
returns-then-part-count-clause-some c _ none =
    let test = c.if-part-count.true in
    let count = c.count.ensures in
    some_in c.args.parts.now c.loop-part.part-index c.part-item.result c.loop-part-test.true c.part-item.is (omega (arith, test, count)) none

pub loop-part-preserved : goal.loop-part-preserved
loop-part-preserved c =
    let test = c.if-part-count.false in
    let count = c.count.ensures in
    none_more c.args.parts.now c.loop-part.part-index c.part-item.result c.loop-part-test.true c.part-item.is c.loop-part.invariant (omega (arith, test, count))

pub returns-clause-none : goal.returns-clause-none
returns-clause-none c _ = sym (ap pieces_in (take_all c.loop-part.part-index c.args.parts.now c.loop-part-test.false)) ∙ c.loop-part.invariant
