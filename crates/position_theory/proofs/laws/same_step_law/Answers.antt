use Rattle.position_theory.proofs.StateLemmas.{same_step}
use Rattle.position_theory.proofs.laws.same_step_law.Goals as goal

pub returns : goal.returns
returns c = same_step
