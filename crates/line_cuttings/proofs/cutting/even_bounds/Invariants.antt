use Rattle.std.proofs.Common.{◌≡◌, ◌<◌, ◌*◌, ◌/◌, length, slice_get, Some, ℕ}
use Rattle.line_cuttings.proofs.cutting.even_bounds.Given as goal

abbrev pub invariant-loop-i : goal.invariant-loop-i
invariant-loop-i l = record {
  many : length l.bounds.items ≡ l.i;
  each : (k : ℕ) → k < l.i → slice_get l.bounds.items k ≡ Some ((k * l.lines) / l.segments);
}
