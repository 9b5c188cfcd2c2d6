use Rattle.std.proofs.Common.{ap, refl, Err}
use Rattle.answer_theory.specs.declared.task.Task.TheVariants.{Load}
use Rattle.answer_theory.specs.Work.{run_given, sample_loaded, none_loaded}
use Rattle.command_words.specs.Commands.{asked_of}
use Rattle.lrpar_cli.specs.Stops.{writing_stop}
use Rattle.lrpar_cli.proofs.OutputLemmas.{takes_nothing}
use Rattle.lrpar_cli.proofs.OutcomeLemmas.{comes_at, stops_at_sheet, stops_at_sample, stops_at_tree, printed_whole, printed_stopped}
use Rattle.lrpar_cli.proofs.commands.translate_sample.Goals as goal

pub returns-in_err-parsing-clause-comes : goal.returns-in_err-parsing-clause-comes
returns-in_err-parsing-clause-comes g c =
    let stop = c.in_err-parsing.field-0.0 in
    comes_at _ _ _ _ _ _ c.from_residual.result stop c.from_residual.ensures.1
    (stops_at_sheet _ _ _ _ (Load c.args.seed (asked_of c.args.options.now.want c.args.options.now.cut)) _ _ stop _ c.in_err-parsing.ensures.stopped c.in_err-parsing.ensures.reads (λ e. ap Err e) (λ e. cc) (takes_nothing _))

pub returns-in_err-text-clause-comes : goal.returns-in_err-text-clause-comes
returns-in_err-text-clause-comes g c =
    let stop = c.in_err-text.field-0.0 in
    let sheet = c.in_ok-parsing.ensures in
    comes_at _ _ _ _ _ _ c.from_residual-in_err-text.result stop c.from_residual-in_err-text.ensures.1
    (stops_at_sample _ _ _ _ (Load c.args.seed (asked_of c.args.options.now.want c.args.options.now.cut)) _ _ sheet.sheet _ sheet.reads (λ e. cc) refl c.args.seed (λ status said none. none_loaded none) stop c.in_err-text.ensures.stopped (takes_nothing _))

pub returns-in_err-tree-clause-comes : goal.returns-in_err-tree-clause-comes
returns-in_err-tree-clause-comes g c =
    let stop = c.in_err-tree.field-0.0 in
    let sheet = c.in_ok-parsing.ensures in
    let sample = c.in_ok-text.ensures.text in
    comes_at _ _ _ _ _ _ c.from_residual-in_err-tree.result stop c.from_residual-in_err-tree.ensures.1
    (stops_at_tree _ _ _ _ (Load c.args.seed (asked_of c.args.options.now.want c.args.options.now.cut)) _ _ sheet.sheet _ sheet.reads (λ e. cc) refl c.in_ok-text.text.items (λ said refused. sample_loaded sample (refused (asked_of c.args.options.now.want c.args.options.now.cut))) stop (rw c.deref.ensures.value at c.in_err-tree.ensures.stopped) (takes_nothing _))

pub returns-in_err-write_asked-clause-comes : goal.returns-in_err-write_asked-clause-comes
returns-in_err-write_asked-clause-comes g c =
    let sheet = c.in_ok-parsing.ensures in
    let sample = c.in_ok-text.ensures.text in
    let fault = c.in_err-write_asked.field-0.0 in
    comes_at _ _ _ _ _ _ c.from_residual-in_err-write_asked.result (writing_stop fault) c.from_residual-in_err-write_asked.ensures.1
    (printed_stopped _ _ _ _ (Load c.args.seed (asked_of c.args.options.now.want c.args.options.now.cut)) _ _ sheet.sheet _ sheet.reads (λ e. cc) _ refl (λ given is. sample_loaded sample (run_given is)) fault (rw c.deref-2.ensures.value at c.in_err-write_asked.ensures.written))

pub returns-clause-comes : goal.returns-clause-comes
returns-clause-comes g c =
    let sheet = c.in_ok-parsing.ensures in
    let sample = c.in_ok-text.ensures.text in
    printed_whole _ _ _ _ (Load c.args.seed (asked_of c.args.options.now.want c.args.options.now.cut)) _ _ sheet.sheet _ sheet.reads (λ e. cc) _ refl (λ given is. sample_loaded sample (run_given is)) (rw c.deref-2.ensures.value at c.in_ok-write_asked.ensures.written)
