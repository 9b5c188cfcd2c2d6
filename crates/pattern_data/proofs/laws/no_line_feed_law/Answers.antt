use Rattle.pattern_data.proofs.LanguageLemmas.{Matches-no_feed}
use Rattle.pattern_data.proofs.laws.no_line_feed_law.Goals as goal

pub returns : goal.returns
returns c = λ pattern w string. Matches-no_feed {p = pattern} {w = w} string
