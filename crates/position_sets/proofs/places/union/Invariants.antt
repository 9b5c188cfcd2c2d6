use Rattle.std.proofs.Common.{◌≡◌, ℕ, ◌<◌, ◌≤◌, length, get_or, bit_or}
use Rattle.position_sets.proofs.places.union.Given as goal

abbrev pub invariant-loop-index : goal.invariant-loop-index
invariant-loop-index l = record {
  size : length l.set.items ≡ length l.initial.set.items;
  joined : (k : ℕ) → k < l.index → get_or l.set.items k 0 ≡ bit_or (get_or l.initial.set.items k 0) (get_or l.other k 0);
  rest : (k : ℕ) → l.index ≤ k → get_or l.set.items k 0 ≡ get_or l.initial.set.items k 0;
}
