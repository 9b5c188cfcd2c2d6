use Rattle.finished_theory.proofs.FinishedLemmas.{one_finished, finished}
use Rattle.finished_theory.proofs.finished_laws.Goals as goal

pub returns : goal.returns
returns c = record { one = one_finished; finished = finished }
