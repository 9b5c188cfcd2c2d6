use Rattle.std.proofs.Common.{◌<◌, ◌++◌, Option, length, refl, ◌∙◌, subst, arith}
use Rattle.piece_theory.specs.Pieces.{Fault}
use Rattle.stack_finish.specs.Gathering.{IsGathered}
use Rattle.stack_finish.specs.Putting.{IsAfter}
use Rattle.stack_finish.proofs.PartLemmas.{next_piece, none_left, read_piece}
use Rattle.stack_finish.proofs.gathered.Gathered.put_part.Goals as goal

pub loop-index-init : goal.loop-index-init
loop-index-init c = record { at = λ base pieces rest w same at. (pieces, same, at); chunks = refl; chunk = refl }

pub put-requires-clause-at : goal.put-requires-clause-at
put-requires-clause-at c =
    let t = c.args.tables.now in
    let closed = c.args.part.now.block.closed in
    let i = c.loop-index.index in
    let at = c.requires.at in
    let left = c.loop-index.invariant.at at.0 at.1 at.2 at.3 at.6 at.7 in
    let test = c.loop-index-test.true in
    let long = c.count-index-end.ensures in
    let next = next_piece closed i left.0 (omega (arith, test, long)) left.1 in
    (at.0, next.piece, next.later ++ at.2, at.3, at.4, at.5, next.is ∙ read_piece closed i c.first.ensures c.tokens.ensures c.floors.ensures c.kids.ensures, subst (λ l. IsGathered t at.0 c.loop-index.self (l ++ at.2) at.3) next.parts left.2)

pub returns-in-Some-clause-at : goal.returns-in-Some-clause-at
returns-in-Some-clause-at c base pieces rest w same at =
    let t = c.args.tables.now in
    let closed = c.args.part.now.block.closed in
    let i = c.loop-index.index in
    let left = c.loop-index.invariant.at base pieces rest w same at in
    let test = c.loop-index-test.true in
    let long = c.count-index-end.ensures in
    let next = next_piece closed i left.0 (omega (arith, test, long)) left.1 in
    subst (λ (o : Option Fault). IsAfter t base c.put.new.self (next.later ++ rest) w o) c.in-Some.is (c.in_ok-error.ensures.at base next.piece (next.later ++ rest) w (next.is ∙ read_piece closed i c.first.ensures c.tokens.ensures c.floors.ensures c.kids.ensures) (subst (λ l. IsGathered t base c.loop-index.self (l ++ rest) w) next.parts left.2))

pub loop-index-preserved : goal.loop-index-preserved
loop-index-preserved c =
    let t = c.args.tables.now in
    let closed = c.args.part.now.block.closed in
    let i = c.loop-index.index in
    let test = c.loop-index-test.true in
    let long = c.count-index-end.ensures in
    let inside : i < length closed = omega (arith, test, long) in
    let read = read_piece closed i c.first.ensures c.tokens.ensures c.floors.ensures c.kids.ensures in
    record {
      at = λ base pieces rest w same at. (
          let left = c.loop-index.invariant.at base pieces rest w same at in
          let next = next_piece closed i left.0 inside left.1 in
          (next.later, next.rest, subst (λ (o : Option Fault). IsAfter t base c.put.new.self (next.later ++ rest) w o) c.in-None.is (c.in_ok-error.ensures.at base next.piece (next.later ++ rest) w (next.is ∙ read) (subst (λ l. IsGathered t base c.loop-index.self (l ++ rest) w) next.parts left.2))));
      chunks = c.in_ok-error.ensures.same.0 ∙ c.loop-index.invariant.chunks;
      chunk = c.in_ok-error.ensures.same.1 ∙ c.loop-index.invariant.chunk;
    }

pub returns-clause-at : goal.returns-clause-at
returns-clause-at c base pieces rest w same at =
    let left = c.loop-index.invariant.at base pieces rest w same at in
    let test = c.loop-index-test.false in
    let long = c.count-index-end.ensures in
    subst (λ l. IsGathered c.args.tables.now base c.loop-index.self (l ++ rest) w) (none_left c.args.part.now.block.closed c.loop-index.index left.0 (omega (arith, test, long)) left.1) left.2
