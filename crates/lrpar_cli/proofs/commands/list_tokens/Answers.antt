use Rattle.std.proofs.Common.{ap, refl, Err}
use Rattle.answer_theory.specs.Work.{tokens_listed}
use Rattle.lrpar_cli.proofs.OutputLemmas.{takes_nothing}
use Rattle.lrpar_cli.proofs.OutcomeLemmas.{comes_at, stops_at_sheet, stops_at_text, text_whole, text_stopped}
use Rattle.answer_theory.specs.declared.task.Task.TheVariants.{Tokens}
use Rattle.lrpar_cli.specs.Stops.{writing_stop}
use Rattle.lrpar_cli.proofs.commands.list_tokens.Goals as goal

pub returns-in_err-scanned-clause-comes : goal.returns-in_err-scanned-clause-comes
returns-in_err-scanned-clause-comes g c =
    let stop = c.in_err-scanned.field-0.0 in
    comes_at _ _ _ _ _ _ c.from_residual.result stop c.from_residual.ensures.1
    (stops_at_sheet _ _ _ _ Tokens _ _ stop _ c.in_err-scanned.ensures.stopped c.in_err-scanned.ensures.reads (λ e. ap Err e) (λ e. cc) (takes_nothing _))

pub returns-in_err-text-clause-comes : goal.returns-in_err-text-clause-comes
returns-in_err-text-clause-comes g c =
    let stop = c.in_err-text.field-0.0 in
    let sheet = c.in_ok-scanned.ensures in
    comes_at _ _ _ _ _ _ c.from_residual-in_err-text.result stop c.from_residual-in_err-text.ensures.1
    (stops_at_text Tokens refl _ _ _ _ _ _ _ _ sheet.sheet _ sheet.reads (λ e. cc) sheet.same stop _ c.in_err-text.ensures.stopped c.in_err-text.ensures.reads (λ e. ap Err e) (λ e. cc) (takes_nothing _))

pub returns-in_err-write_tokens-clause-comes : goal.returns-in_err-write_tokens-clause-comes
returns-in_err-write_tokens-clause-comes g c =
    let sheet = c.in_ok-scanned.ensures in
    let text = c.in_ok-text.ensures in
    let fault = c.in_err-write_tokens.field-0.0 in
    comes_at _ _ _ _ _ _ c.from_residual-in_err-write_tokens.result (writing_stop fault) c.from_residual-in_err-write_tokens.ensures.1
    (text_stopped Tokens refl _ _ _ _ _ _ _ _ sheet.sheet _ sheet.reads (λ e. cc) sheet.same c.in_ok-text.text.items text.text _ text.reads (λ e. cc) _ (λ given is. tokens_listed is) fault (rw c.deref.ensures.value at c.in_err-write_tokens.ensures.written))

pub returns-clause-comes : goal.returns-clause-comes
returns-clause-comes g c =
    let sheet = c.in_ok-scanned.ensures in
    let text = c.in_ok-text.ensures in
    text_whole Tokens refl _ _ _ _ _ _ _ _ sheet.sheet _ sheet.reads (λ e. cc) sheet.same c.in_ok-text.text.items text.text _ text.reads (λ e. cc) _ (λ given is. tokens_listed is) (rw c.deref.ensures.value at c.in_ok-write_tokens.ensures.written)
