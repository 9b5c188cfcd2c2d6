use Rattle.std.proofs.Common.{◌≡◌, ℕ, ◌-◌, ◌<◌, ◌≤◌, true, length, get_or}
use Rattle.lexeme_theory.specs.SheetBytes.{is_digit}
use Rattle.sheet_lexemes.proofs.runs.digits_end.Given as goal

abbrev pub invariant-loop-to : goal.invariant-loop-to
invariant-loop-to l = record {
  ordered : l.from ≤ l.to;
  inside : l.to ≤ length l.bytes;
  each : (i : ℕ) → l.from ≤ i → i < l.to → is_digit (get_or l.bytes i 0) ≡ true;
}

abbrev pub decreases-loop-to : goal.decreases-loop-to
decreases-loop-to l = length l.bytes - l.to
