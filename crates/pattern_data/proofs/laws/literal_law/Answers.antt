use Rattle.pattern_data.proofs.LanguageLemmas.{literal-match, literal-positions}
use Rattle.pattern_data.proofs.laws.literal_law.Goals as goal

pub returns-clause-matches : goal.returns-clause-matches
returns-clause-matches c = literal-match

pub returns-clause-positions : goal.returns-clause-positions
returns-clause-positions c = literal-positions
