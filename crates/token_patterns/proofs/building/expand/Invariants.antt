use Rattle.std.proofs.Common.{◌≡◌, ◌+◌, ◌*◌, ◌<◌, ◌≤◌, length}
use Rattle.scanning_theory.specs.declared.limits.TheConstants.{STATES}
use Rattle.token_patterns.specs.Searching.{IsSearchAt, words_of}
use Rattle.token_patterns.proofs.building.expand.Given as goal

abbrev pub invariant-loop-mask : goal.invariant-loop-mask
invariant-loop-mask l = record {
  search : IsSearchAt l.fn.patterns l.fn.size (words_of l.search.sets.keys) l.search.cells.items l.search.ends.items l.fn.state l.ahead.items;
  cells_are : length l.search.cells.items ≡ 256 * l.fn.state + l.mask-index;
  ends_count : length l.search.ends.items ≡ l.fn.state + 1;
  few : length l.search.sets.keys ≤ STATES;
  inside : l.fn.state < length l.search.sets.keys;
}
