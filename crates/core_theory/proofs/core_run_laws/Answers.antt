use Rattle.core_theory.proofs.RunLemmas.{covered_run_law, claim_run_law, join_run_law, whole_run_law}
use Rattle.core_theory.proofs.core_run_laws.Goals as goal

pub returns : goal.returns
returns c = record {
  covered = covered_run_law;
  claims = claim_run_law;
  joins = join_run_law;
  whole = whole_run_law;
}
