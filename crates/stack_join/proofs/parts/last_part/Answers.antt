use Rattle.std.proofs.Common.{◌++◌, ap, ◌∙◌, append-nil, arith}
use Rattle.piece_lists.specs.Lists.{pieces_in}
use Rattle.stack_join.proofs.PartLemmas.{no_pieces, pieces_push}
use Rattle.stack_join.proofs.parts.last_part.Goals as goal

pub returns-then-part-count-clause-some : goal.returns-then-part-count-clause-some
returns-then-part-count-clause-some c =
    let test = c.if-part-count.true in
    let count = c.count.ensures in
    (c.loop-part.invariant ∙ ap pieces_in c.in-Some.ensures.items ∙ pieces_push c.pop.new.self.items c.in-Some.part, omega (arith, test, count))

pub loop-part-preserved : goal.loop-part-preserved
loop-part-preserved c =
    let test = c.if-part-count.false in
    let count = c.count.ensures in
    let left = c.pop.new.self.items in
    c.loop-part.invariant ∙ ap pieces_in c.in-Some.ensures.items ∙ pieces_push left c.in-Some.part ∙ ap (λ l. pieces_in left ++ l) (no_pieces c.in-Some.part (omega (arith, test, count))) ∙ append-nil (pieces_in left)
