use Rattle.std.proofs.Common.{◌≡◌, ℕ, ◌-◌, ◌<◌, ◌≤◌, true, length, get_or}
use Rattle.std.specs.Prelude.{not, ◌==◌}
use Rattle.sheet_lexemes.proofs.runs.line_end.Given as goal

abbrev pub invariant-loop-to : goal.invariant-loop-to
invariant-loop-to l = record {
  ordered : l.from ≤ l.to;
  inside : l.to ≤ length l.bytes;
  each : (i : ℕ) → l.from ≤ i → i < l.to → not (get_or l.bytes i 0 == 10) ≡ true;
}

abbrev pub decreases-loop-to : goal.decreases-loop-to
decreases-loop-to l = length l.bytes - l.to
