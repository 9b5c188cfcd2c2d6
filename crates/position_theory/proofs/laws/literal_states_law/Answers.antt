use Rattle.position_theory.proofs.LiteralLemmas.{literal_states}
use Rattle.position_theory.proofs.laws.literal_states_law.Goals as goal

pub returns : goal.returns
returns c = literal_states
