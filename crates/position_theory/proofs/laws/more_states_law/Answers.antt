use Rattle.position_theory.proofs.StateLemmas.{more_states}
use Rattle.position_theory.proofs.laws.more_states_law.Goals as goal

pub returns : goal.returns
returns c = more_states
