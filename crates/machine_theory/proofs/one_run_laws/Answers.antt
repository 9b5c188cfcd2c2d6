use Rattle.machine_theory.proofs.RunLemmas.{one_reduction_law, one_run_law, stop_law, one_error_law}
use Rattle.machine_theory.proofs.one_run_laws.Goals as goal

pub returns : goal.returns
returns c = record {
  one_reduction = one_reduction_law;
  one_run = one_run_law;
  stop = stop_law;
  one_error = one_error_law;
}
