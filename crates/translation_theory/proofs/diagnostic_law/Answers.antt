use Rattle.translation_theory.proofs.DiagnosticLemmas.{one_diagnostic}
use Rattle.translation_theory.proofs.diagnostic_law.Goals as goal

pub returns : goal.returns
returns c = one_diagnostic
