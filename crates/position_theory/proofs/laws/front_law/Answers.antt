use Rattle.position_theory.proofs.StateLemmas.{front_reaches}
use Rattle.position_theory.proofs.laws.front_law.Goals as goal

pub returns : goal.returns
returns c = front_reaches
