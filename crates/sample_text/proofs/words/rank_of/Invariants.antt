use Rattle.std.proofs.Common.{◌≢◌, ℕ, ◌<◌}
use Rattle.std.specs.Prelude.{slice_get, Some}
use Rattle.pattern_data.specs.declared.pattern.Meaning.TheVariants.{Token as token_meaning}
use Rattle.sample_text.proofs.words.rank_of.Given as goal

abbrev pub invariant-loop-rank : goal.invariant-loop-rank
invariant-loop-rank l = (other : ℕ) → other < l.rank → slice_get l.means other ≢ Some (token_meaning l.token)
