use Rattle.pattern_data.proofs.FeedLemmas.{spelling_no_feed}
use Rattle.pattern_data.proofs.laws.no_feed_in_spelling_law.Goals as goal

pub returns : goal.returns
returns c = spelling_no_feed
