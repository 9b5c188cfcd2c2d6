use Rattle.std.proofs.Common.{sym, subst}
use Rattle.run_theory.specs.RunAnswers.{Given}
use Rattle.tally_theory.specs.Asked.{IsAnswerTo}
use Rattle.command_words.specs.Commands.{asked_of}
use Rattle.lrpar_cli.proofs.OutputLemmas.{written_as}
use Rattle.lrpar_cli.proofs.ReportingLemmas.{report_given}
use Rattle.lrpar_cli.proofs.reporting.write_asked.Goals as goal

pub write_report-requires-clause-finished : goal.write_report-requires-clause-finished
write_report-requires-clause-finished g c =
    let found = c.requires.tree in
    (c.args.tree.now.root, 0, found.tree, found.shown c.args.tree.now.root 0)

pub returns-in-Text-clause-written : goal.returns-in-Text-clause-written
returns-in-Text-clause-written g c =
    written_as _ _ _ _ (λ bytes is. subst (λ want. IsAnswerTo c.args.parsing.now.scanned.sheet c.args.text.now (asked_of want c.args.options.now.cut) (Given bytes)) (sym c.in-Text.is) is) c.write_tree.ensures.written

pub returns-in-Report-clause-written : goal.returns-in-Report-clause-written
returns-in-Report-clause-written g c =
    let sheet = c.args.parsing.now.scanned.sheet in
    let text = c.args.text.now in
    written_as _ _ _ _ (λ bytes is. subst (λ want. IsAnswerTo sheet text (asked_of want c.args.options.now.cut) (Given bytes)) (sym c.in-Report.is) (report_given sheet text bytes c.args.options.now.cut c.args.tree.now c.requires.tree c.requires.counts is)) c.write_report.ensures.written
