use Rattle.std.proofs.Common.{◌≡◌, ◌+◌, ◌<◌, ◌≤◌, slice_get, Some, ℕ}
use Rattle.line_cuttings.proofs.cutting.never_falls.Given as goal

abbrev pub invariant-loop-i : goal.invariant-loop-i
invariant-loop-i l = (k low high : ℕ) → k + 1 < l.i → slice_get l.numbers k ≡ Some low → slice_get l.numbers (k + 1) ≡ Some high → low ≤ high
