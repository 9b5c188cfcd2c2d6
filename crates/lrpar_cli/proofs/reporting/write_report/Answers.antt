use Rattle.std.proofs.Common.{◌∙◌}
use Rattle.lrpar_cli.proofs.OutputLemmas.{not_written, written_as}
use Rattle.lrpar_cli.proofs.ReportingLemmas.{report_of}
use Rattle.lrpar_cli.proofs.reporting.write_report.Goals as goal

pub returns-in_err-nodes-clause-written : goal.returns-in_err-nodes-clause-written
returns-in_err-nodes-clause-written g c = not_written _ _ c.from_residual.result c.from_residual.ensures.1

pub returns-in_err-report-clause-written : goal.returns-in_err-report-clause-written
returns-in_err-report-clause-written g c = not_written _ _ c.from_residual-in_err-report.result c.from_residual-in_err-report.ensures.1

pub returns-clause-written : goal.returns-clause-written
returns-clause-written g c =
    written_as _ _ _ _ (λ bytes is. report_of c.args.tree.now c.in_ok-nodes.nodes bytes (is ∙ c.deref.ensures.value ∙ c.in_ok-report.ensures) c.in_ok-nodes.ensures) c.write_text.ensures.written
