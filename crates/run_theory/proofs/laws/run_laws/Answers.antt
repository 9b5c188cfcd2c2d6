use Rattle.run_theory.proofs.RunLemmas.{one_tree, one_run, some_run}
use Rattle.run_theory.proofs.laws.run_laws.Goals as goal

pub returns : goal.returns
returns c = record { one_tree = one_tree; one = one_run; some = some_run }
