use Rattle.machine_theory.proofs.RunLemmas.{then_law, error_then_law, more_input_law, error_more_input_law, lookahead_law}
use Rattle.machine_theory.proofs.StackLemmas.{tokens_stay_law}
use Rattle.machine_theory.proofs.run_laws.Goals as goal

pub returns : goal.returns
returns c = record {
  then = then_law;
  error_then = error_then_law;
  more_input = more_input_law;
  error_more_input = error_more_input_law;
  lookahead = lookahead_law;
  tokens = tokens_stay_law;
}
