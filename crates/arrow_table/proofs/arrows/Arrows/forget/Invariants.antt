use Rattle.std.proofs.Common.{◌≡◌, ℕ, ◌+◌, ◌<◌, ◌≤◌, length, get_or}
use Rattle.arrow_table.specs.Looks.{Grows}
use Rattle.arrow_table.proofs.ForgettingLemmas.{IsKept}
use Rattle.arrow_table.proofs.arrows.Arrows.forget.Given as goal

abbrev pub invariant-loop-place : goal.invariant-loop-place
invariant-loop-place l = record {
  tables : l.self.0 ≡ l.fn.self.0;
  base : l.self.2 ≡ length l.fn.self.1;
  grows : Grows l.fn.self.1 l.self.1;
  few : length l.self.1 ≤ length l.fn.self.1 + l.place;
  even : length l.keep ≡ length l.fn.keep;
  done : (i : ℕ) → i < l.place → IsKept l.fn.self.1 l.self.1 l.self.2 (get_or l.fn.keep i 0) (get_or l.keep i 0);
  later : (i : ℕ) → l.place ≤ i → get_or l.keep i 0 ≡ get_or l.fn.keep i 0;
}
