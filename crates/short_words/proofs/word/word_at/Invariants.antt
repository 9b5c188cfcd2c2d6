use Rattle.std.proofs.Common.{◌≡◌, ℕ, ◌<◌, List, ◌++◌, length, reverse}
use Rattle.std.specs.Prelude.{slice_get, Some}
use Rattle.short_words.specs.Searching.{AreWordsOf}
use Rattle.short_words.proofs.word.word_at.Given as goal

abbrev pub invariant-loop-at : goal.invariant-loop-at
invariant-loop-at l = record {
  inside : l.at < length l.found;
  back : (words : List (List ℕ)) → AreWordsOf l.found words → (u : List ℕ) × (slice_get words l.at ≡ Some u) × (slice_get words l.place ≡ Some (u ++ reverse l.bytes.items));
}

abbrev pub decreases-loop-at : goal.decreases-loop-at
decreases-loop-at l = l.at
