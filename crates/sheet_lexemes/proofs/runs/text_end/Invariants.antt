use Rattle.std.proofs.Common.{◌≡◌, ℕ, ◌-◌, ◌<◌, ◌≤◌, true, length}
use Rattle.lexeme_theory.specs.Texts.{text_goes_on, is_taken_at}
use Rattle.sheet_lexemes.proofs.runs.text_end.Given as goal

abbrev pub invariant-loop-to : goal.invariant-loop-to
invariant-loop-to l = record {
  ordered : l.from ≤ l.to;
  inside : l.to ≤ length l.bytes;
  each : (i : ℕ) → l.from ≤ i → i < l.to → text_goes_on l.closing l.bytes l.from i ≡ true;
  taken : l.is_taken ≡ is_taken_at l.bytes l.from (l.to - l.from);
}

abbrev pub decreases-loop-to : goal.decreases-loop-to
decreases-loop-to l = length l.bytes - l.to
