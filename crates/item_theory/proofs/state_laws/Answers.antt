use Rattle.item_theory.proofs.StateLaws.{step_law, same_step_law, prefix_law, leading_once_law, leading_state_law, states_once_law, state_count_law, conflict_state_law}
use Rattle.item_theory.proofs.state_laws.Goals as goal

pub returns : goal.returns
returns c = record {
  step = step_law;
  same_step = same_step_law;
  prefix = prefix_law;
  leading_once = leading_once_law;
  leading_state = leading_state_law;
  states_once = states_once_law;
  count = state_count_law;
  conflict = conflict_state_law;
}
