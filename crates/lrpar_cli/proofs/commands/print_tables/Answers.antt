use Rattle.std.proofs.Common.{ap, refl, Err}
use Rattle.answer_theory.specs.declared.task.Task.TheVariants.{Tables}
use Rattle.answer_theory.specs.Work.{tables_printed}
use Rattle.lrpar_cli.specs.Stops.{writing_stop}
use Rattle.lrpar_cli.proofs.OutputLemmas.{takes_nothing}
use Rattle.lrpar_cli.proofs.OutcomeLemmas.{comes_at, stops_at_sheet, printed_whole, printed_stopped}
use Rattle.lrpar_cli.proofs.commands.print_tables.Goals as goal

pub returns-in_err-parsing-clause-comes : goal.returns-in_err-parsing-clause-comes
returns-in_err-parsing-clause-comes g c =
    let stop = c.in_err-parsing.field-0.0 in
    comes_at _ _ _ _ _ _ c.from_residual.result stop c.from_residual.ensures.1
    (stops_at_sheet _ _ _ _ Tables _ _ stop _ c.in_err-parsing.ensures.stopped c.in_err-parsing.ensures.reads (λ e. ap Err e) (λ e. cc) (takes_nothing _))

pub returns-in_err-write_states-clause-comes : goal.returns-in_err-write_states-clause-comes
returns-in_err-write_states-clause-comes g c =
    let sheet = c.in_ok-parsing.ensures in
    let fault = c.in_err-write_states.field-0.0 in
    comes_at _ _ _ _ _ _ c.from_residual-in_err-write_states.result (writing_stop fault) c.from_residual-in_err-write_states.ensures.1
    (printed_stopped _ _ _ _ Tables _ _ sheet.sheet _ sheet.reads (λ e. cc) _ refl (λ text is. tables_printed is) fault c.in_err-write_states.ensures.written)

pub returns-clause-comes : goal.returns-clause-comes
returns-clause-comes g c =
    let sheet = c.in_ok-parsing.ensures in
    printed_whole _ _ _ _ Tables _ _ sheet.sheet _ sheet.reads (λ e. cc) _ refl (λ text is. tables_printed is) c.in_ok-write_states.ensures.written
