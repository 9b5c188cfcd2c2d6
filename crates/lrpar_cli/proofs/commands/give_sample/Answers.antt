use Rattle.std.proofs.Common.{ap, refl, Err}
use Rattle.answer_theory.specs.declared.task.Task.TheVariants.{Gen}
use Rattle.answer_theory.specs.Work.{none_given}
use Rattle.lrpar_cli.specs.Stops.{writing_stop}
use Rattle.lrpar_cli.proofs.OutputLemmas.{takes_nothing}
use Rattle.lrpar_cli.proofs.OutcomeLemmas.{comes_at, stops_at_sheet, stops_at_sample, printed_whole, printed_stopped}
use Rattle.lrpar_cli.proofs.SampleLemmas.{given_so}
use Rattle.lrpar_cli.proofs.commands.give_sample.Goals as goal

pub returns-in_err-parsing-clause-comes : goal.returns-in_err-parsing-clause-comes
returns-in_err-parsing-clause-comes g c =
    let stop = c.in_err-parsing.field-0.0 in
    comes_at _ _ _ _ _ _ c.from_residual.result stop c.from_residual.ensures.1
    (stops_at_sheet _ _ _ _ (Gen c.args.seed) _ _ stop _ c.in_err-parsing.ensures.stopped c.in_err-parsing.ensures.reads (λ e. ap Err e) (λ e. cc) (takes_nothing _))

pub returns-in_err-text-clause-comes : goal.returns-in_err-text-clause-comes
returns-in_err-text-clause-comes g c =
    let stop = c.in_err-text.field-0.0 in
    let sheet = c.in_ok-parsing.ensures in
    comes_at _ _ _ _ _ _ c.from_residual-in_err-text.result stop c.from_residual-in_err-text.ensures.1
    (stops_at_sample _ _ _ _ (Gen c.args.seed) _ _ sheet.sheet _ sheet.reads (λ e. cc) refl c.args.seed (λ status said none. none_given none) stop c.in_err-text.ensures.stopped (takes_nothing _))

pub returns-in_err-write_text-clause-comes : goal.returns-in_err-write_text-clause-comes
returns-in_err-write_text-clause-comes g c =
    let sheet = c.in_ok-parsing.ensures in
    let fault = c.in_err-write_text.field-0.0 in
    comes_at _ _ _ _ _ _ c.from_residual-in_err-write_text.result (writing_stop fault) c.from_residual-in_err-write_text.ensures.1
    (printed_stopped _ _ _ _ (Gen c.args.seed) _ _ sheet.sheet _ sheet.reads (λ e. cc) _ refl (λ given is. given_so _ c.args.seed c.in_ok-text.text.items given c.in_ok-text.ensures.text is) fault (rw c.deref.ensures.value at c.in_err-write_text.ensures.written))

pub returns-clause-comes : goal.returns-clause-comes
returns-clause-comes g c =
    let sheet = c.in_ok-parsing.ensures in
    printed_whole _ _ _ _ (Gen c.args.seed) _ _ sheet.sheet _ sheet.reads (λ e. cc) _ refl (λ given is. given_so _ c.args.seed c.in_ok-text.text.items given c.in_ok-text.ensures.text is) (rw c.deref.ensures.value at c.in_ok-write_text.ensures.written)
