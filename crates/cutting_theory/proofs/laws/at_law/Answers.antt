use Rattle.cutting_theory.proofs.BoundLemmas.{at_cuts}
use Rattle.cutting_theory.proofs.laws.at_law.Goals as goal

pub returns : goal.returns
returns c = at_cuts
