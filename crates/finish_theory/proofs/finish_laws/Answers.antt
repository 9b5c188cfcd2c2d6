use Rattle.finish_theory.proofs.FinishLemmas.{closing_law, fault_law, closing_fault_law, stop_law, closing_stop_law, accept_law, one_end_law}
use Rattle.finish_theory.proofs.finish_laws.Goals as goal

pub returns : goal.returns
returns c = record {
  closing = closing_law;
  fault = fault_law;
  closing_fault = closing_fault_law;
  stop = stop_law;
  closing_stop = closing_stop_law;
  accept = accept_law;
  one_end = one_end_law;
}
