use Rattle.std.proofs.Common.{◌≡◌, ℕ, ◌-◌, ◌<◌, ◌≤◌, true, length}
use Rattle.std.specs.Prelude.{not}
use Rattle.lexeme_theory.specs.Stands.{closes_comment}
use Rattle.sheet_lexemes.proofs.runs.comment_end.Given as goal

abbrev pub invariant-loop-to : goal.invariant-loop-to
invariant-loop-to l = record {
  ordered : l.from ≤ l.to;
  inside : l.to ≤ length l.bytes;
  each : (i : ℕ) → l.from ≤ i → i < l.to → not (closes_comment l.bytes i) ≡ true;
}

abbrev pub decreases-loop-to : goal.decreases-loop-to
decreases-loop-to l = length l.bytes - l.to
