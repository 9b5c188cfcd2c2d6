use Rattle.std.proofs.Common.{◌≡◌, ℕ, ◌+◌, ◌*◌, length}
use Rattle.std.specs.Prelude.{slice_get, Some}
use Rattle.short_words.specs.declared.search.Found.{Found}
use Rattle.short_words.specs.Searching.{IsSearchTo, unseen_in}
use Rattle.short_words.proofs.search.expand.Given as goal

abbrev pub invariant-loop-byte : goal.invariant-loop-byte
invariant-loop-byte l = record {
  search : IsSearchTo l.scanner l.search.found.items l.search.seen.items (256 * l.at + l.byte);
  size : length l.search.seen.items ≡ length l.scanner.ends;
  unseen : unseen_in l.search.seen.items + length l.search.found.items ≡ unseen_in l.fn.search.seen.items + length l.fn.search.found.items;
  kept : (k : ℕ) (f : Found) → slice_get l.fn.search.found.items k ≡ Some f → slice_get l.search.found.items k ≡ Some f;
}
