use Rattle.std.proofs.Common.{◌≡◌, ℕ, ◌<◌, length, get_or}
use Rattle.std.specs.Prelude.{bit_and}
use Rattle.position_sets.proofs.places.common.Given as goal

abbrev pub invariant-loop-index : goal.invariant-loop-index
invariant-loop-index l = record {
  size : length l.both.items ≡ l.index;
  met : (k : ℕ) → k < l.index → get_or l.both.items k 0 ≡ bit_and (get_or l.set k 0) (get_or l.other k 0);
}
