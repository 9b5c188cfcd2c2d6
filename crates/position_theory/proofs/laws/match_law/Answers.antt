use Rattle.position_theory.proofs.MatchLemmas.{match_ends, ends_match}
use Rattle.position_theory.proofs.laws.match_law.Goals as goal

pub returns : goal.returns
returns c = λ patterns rank pattern w at some. (match_ends patterns rank pattern w at some, λ found. ends_match patterns rank pattern w at found.0 found.1 found.2)
