use Rattle.pattern_data.proofs.RoundLemmas.{normal_spells}
use Rattle.pattern_data.proofs.laws.normal_spelling_law.Goals as goal

pub returns : goal.returns
returns c = normal_spells
