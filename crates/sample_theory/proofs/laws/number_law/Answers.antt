use Rattle.sample_theory.proofs.WordLemmas.{number_law}
use Rattle.sample_theory.proofs.laws.number_law.Goals as goal

pub returns : goal.returns
returns c = number_law
