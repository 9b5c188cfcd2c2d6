use Rattle.tally_theory.proofs.ReportLemmas.{one_report, some_report}
use Rattle.tally_theory.proofs.laws.report_laws.Goals as goal

pub returns : goal.returns
returns c = record { one = one_report; some = some_report }
