use Rattle.position_theory.proofs.SpellingLemmas.{spelled_within}
use Rattle.position_theory.proofs.laws.spelling_positions_law.Goals as goal

pub returns : goal.returns
returns c = spelled_within
