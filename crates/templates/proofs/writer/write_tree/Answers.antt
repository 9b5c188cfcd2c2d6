use Rattle.std.proofs.Common.{[], ◌∷◌, ◌++◌, sym, subst, ◌∙◌, append-nil, rules as all_rules}
use Rattle.std.specs.Prelude.{None, Some}
use Rattle.writing_theory.specs.Writing.{IsWritten}
use Rattle.writing_theory.specs.declared.fault.WriteFault.TheVariants.{Failed, NoMemory}
use Rattle.writing_theory.proofs.BlockLemmas.{err_at}
use Rattle.templates.specs.Pending.{Pending}
use Rattle.templates.proofs.KidLemmas.{node_there, translation_in}
use Rattle.templates.proofs.PendingLemmas.{root_gives, begun_alone}
use Rattle.templates.proofs.UnderwayLemmas.{starts, goes_on, goes_by, step_failed, is_cut, ends, end_failed}
use Rattle.templates.proofs.writer.write_tree.Goals as goal

pub frame-last-requires : goal.frame-last-requires
frame-last-requires g c = node_there (root_gives c.args.source.now c.args.root c.requires.tree c.requires.shown c.requires.rules)

pub loop-step-init : goal.loop-step-init
loop-step-init g c = record {
  each = λ tree shows rules. starts _ c.new-blocks.ensures (subst (λ frames. Pending c.args.source.now (frames ++ c.frame-last.result ∷ []) (translation_in c.args.source.now tree)) (sym c.new-frames.ensures.items) (begun_alone tree c.frame-last.result shows rules c.frame-last.ensures));
  same = search all_rules;
}

pub step-requires : goal.step-requires
step-requires g c =
    let underway = c.loop-step.invariant.each c.requires.tree c.requires.shown c.requires.rules in
    (underway.rest, underway.pending)

pub returns-in_err-next-clause-written : goal.returns-in_err-next-clause-written
returns-in_err-next-clause-written g c = λ tree shows rules.
    err_at (IsWritten _ _ _) c.from_residual.result NoMemory c.from_residual.ensures.1 (is_cut _ _ (c.loop-step.invariant.each tree shows rules))

pub returns-in_err-pass-clause-written : goal.returns-in_err-pass-clause-written
returns-in_err-pass-clause-written g c = λ tree shows rules.
    err_at (IsWritten _ _ _) c.from_residual-in_err-pass.result Failed c.from_residual-in_err-pass.ensures.1 (step_failed _ _ _ (c.loop-step.invariant.each tree shows rules) c.in_ok-next.ensures.goes c.in_err-pass.ensures.failed)

pub loop-step-preserved : goal.loop-step-preserved
loop-step-preserved g c = record {
  each = λ tree shows rules. goes_on _ _ _ (c.loop-step.invariant.each tree shows rules) (goes_by c.step.new.frames.items c.in_ok-next.field-0 (Some c.in-Some.next) c.in-Some.is c.in_ok-next.ensures.goes) c.in_ok-pass.ensures.passed;
  same = search all_rules;
}

pub returns-in_err-finish-clause-written : goal.returns-in_err-finish-clause-written
returns-in_err-finish-clause-written g c = λ tree shows rules.
    err_at (IsWritten _ _ _) c.from_residual-in_err-finish.result Failed c.from_residual-in_err-finish.ensures.1 (end_failed _ _ _ (append-nil c.step.new.frames.items ∙ c.in_ok-next.ensures.ended c.in_default.is) (c.loop-step.invariant.each tree shows rules) (goes_by c.step.new.frames.items c.in_ok-next.field-0 None c.in_default.is c.in_ok-next.ensures.goes) c.in_err-finish.ensures.failed)

pub returns-in_default-clause-written : goal.returns-in_default-clause-written
returns-in_default-clause-written g c = λ tree shows rules.
    ends _ _ _ (append-nil c.step.new.frames.items ∙ c.in_ok-next.ensures.ended c.in_default.is) (c.loop-step.invariant.each tree shows rules) (goes_by c.step.new.frames.items c.in_ok-next.field-0 None c.in_default.is c.in_ok-next.ensures.goes) c.in_ok-finish.ensures.whole

pub returns-clause-written : goal.returns-clause-written
returns-clause-written g c = λ tree shows rules. is_cut _ _ (c.loop-step.invariant.each tree shows rules)
