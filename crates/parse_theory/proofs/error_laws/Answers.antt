use Rattle.parse_theory.proofs.ErrorLemmas.{first_error_law, reject_law}
use Rattle.parse_theory.proofs.error_laws.Goals as goal

pub returns : goal.returns
returns c = record {
  first_error = first_error_law;
  reject = reject_law;
}
