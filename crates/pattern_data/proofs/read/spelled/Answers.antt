use Rattle.std.proofs.Common.{◌≡◌, ◌<◌, reverse, length, ap, sym, subst, arith}
use Rattle.std.proofs.lemmas.Result.{err_from_is_err_and}
use Rattle.pattern_data.specs.declared.fault.PatternFault.{PatternFault}
use Rattle.std.proofs.lemmas.Bool.{eqb-false, eqb-true}
use Rattle.pattern_data.specs.declared.pattern.Pattern.{Pattern}
use Rattle.pattern_data.specs.Spellings.{IsSpelling}
use Rattle.pattern_data.specs.Groups.{SyntaxOnlyIf}
use Rattle.pattern_data.proofs.SpelledLemmas.{reads_none, reads_more, reads_wrong, reads_nothing, reads_all, reads_open, other_cause, other_fault, other_ok}
use Rattle.pattern_data.proofs.read.spelled.Goals as goal

pub loop-left-init : goal.loop-left-init
loop-left-init c = reads_none c.args.text.now c.new-reader.result.group (reverse c.new-reader.result.outer.items) c.new-reader.ensures.group (ap reverse c.new-reader.ensures.outer)

pub returns-in_default-clause-err : goal.returns-in_default-clause-err
returns-in_default-clause-err c =
    let some : 0 < length c.loop-left.left.now = let isnt = eqb-false (length c.loop-left.left.now) 0 (sym c.loop-left-test.ensures) in omega arith in
    reads_nothing c.args.text.now c.loop-left.left.now c.loop-left.reader.group (reverse c.loop-left.reader.outer.items) c.loop-left.invariant some c.in_default.ensures.front

pub returns-in_err-take-clause-err : goal.returns-in_err-take-clause-err
returns-in_err-take-clause-err c =
    let wrong = reads_wrong c.args.text.now c.loop-left.left.now c.in-Some.rest.now c.in-Some.sign c.loop-left.reader.group (reverse c.loop-left.reader.outer.items) c.loop-left.invariant c.in-Some.ensures.front in
    let cause : SyntaxOnlyIf ((pattern : Pattern) → IsSpelling c.args.text.now pattern → ⊥) c.in_err-take.field-0.0 = other_cause _ _ c.in_err-take.field-0.0 wrong c.in_err-take.ensures.err in
    let P : PatternFault → Type 0 = λ fault. SyntaxOnlyIf ((pattern : Pattern) → IsSpelling c.args.text.now pattern → ⊥) fault in
    let found = err_from_is_err_and c.from_residual.result c.from_residual.ensures.1 in
    rw found.1 (subst P (sym found.2) cause)

pub loop-left-preserved : goal.loop-left-preserved
loop-left-preserved c =
    reads_more c.args.text.now c.loop-left.left.now c.in-Some.rest.now c.in-Some.sign c.loop-left.reader.group c.take.new.self.group (reverse c.loop-left.reader.outer.items) (reverse c.take.new.self.outer.items) c.loop-left.invariant
    c.in-Some.ensures.front c.in_ok-take.ensures.ok

pub returns-clause-ok : goal.returns-clause-ok
returns-clause-ok c =
    let end : length c.loop-left.left.now ≡ 0 = eqb-true (length c.loop-left.left.now) 0 (sym c.loop-left-test.ensures) in
    other_ok _ _ c.end.result (λ pattern e. reads_all c.args.text.now c.loop-left.left.now c.loop-left.reader.group (reverse c.loop-left.reader.outer.items) pattern c.loop-left.invariant end e) c.end.ensures.ok

pub returns-clause-err : goal.returns-clause-err
returns-clause-err c =
    let end : length c.loop-left.left.now ≡ 0 = eqb-true (length c.loop-left.left.now) 0 (sym c.loop-left-test.ensures) in
    other_fault _ _ c.end.result (reads_open c.args.text.now c.loop-left.left.now c.loop-left.reader.group (reverse c.loop-left.reader.outer.items) c.loop-left.invariant end) c.end.ensures.err
