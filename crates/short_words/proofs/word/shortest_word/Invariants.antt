use Rattle.std.proofs.Common.{◌≡◌, ◌≢◌, ℕ, ◌+◌, ◌-◌, ◌*◌, ◌<◌, ◌≤◌, length}
use Rattle.std.specs.Prelude.{slice_get, slice_index, Some}
use Rattle.token_patterns.specs.Ahead.{no_rank}
use Rattle.token_patterns.specs.Scanner.{IsTable}
use Rattle.short_words.specs.declared.search.Found.{Found}
use Rattle.short_words.specs.Searching.{IsSearchTo, unseen_in}
use Rattle.short_words.proofs.word.shortest_word.Given as goal

abbrev pub invariant-loop-at : goal.invariant-loop-at
invariant-loop-at l = record {
  table : IsTable l.scanner;
  search : IsSearchTo l.scanner l.search.found.items l.search.seen.items (256 * l.at);
  size : length l.search.seen.items ≡ length l.scanner.ends;
  within : l.at ≤ length l.search.found.items;
  not_ended : (k : ℕ) (f : Found) → k < l.at → slice_get l.search.found.items k ≡ Some f → slice_index l.scanner.ends f.state ≡ l.rank → l.rank ≢ no_rank → ⊥;
}

abbrev pub decreases-loop-at : goal.decreases-loop-at
decreases-loop-at l = unseen_in l.search.seen.items + length l.search.found.items - l.at
