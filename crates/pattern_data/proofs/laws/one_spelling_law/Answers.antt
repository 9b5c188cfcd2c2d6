use Rattle.pattern_data.proofs.RoundLemmas.{spelling_once}
use Rattle.pattern_data.proofs.laws.one_spelling_law.Goals as goal

pub returns : goal.returns
returns c = spelling_once
