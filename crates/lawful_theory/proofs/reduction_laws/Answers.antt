use Rattle.lawful_theory.proofs.FitLemmas.{no_late_error_law}
use Rattle.lawful_theory.proofs.SettleLemmas.{reductions_end_law}
use Rattle.lawful_theory.proofs.reduction_laws.Goals as goal

pub returns : goal.returns
returns c = record {
  end = reductions_end_law;
  no_late_error = no_late_error_law;
}
