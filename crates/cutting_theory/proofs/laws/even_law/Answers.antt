use Rattle.cutting_theory.proofs.BoundLemmas.{even_cuts}
use Rattle.cutting_theory.proofs.laws.even_law.Goals as goal

pub returns : goal.returns
returns c = even_cuts
