use Rattle.std.proofs.Common.{◌≡◌, ℕ, false, ◌+◌, ◌≤◌, ◌-◌, length}
use Rattle.std.specs.Prelude.{IfSome}
use Rattle.dead_ends.specs.Pairs.{AreOfOneLine, Keeps}
use Rattle.token_patterns.specs.Walking.{IsWalk, AreDeadEnds}
use Rattle.token_patterns.proofs.scanner.Scanner.keep_passed.Given as goal

abbrev pub invariant-loop-next : goal.invariant-loop-next
invariant-loop-next l = record {
  walk : IsWalk l.self l.text l.from l.walk;
  beyond : l.walk.ended ≡ false → IfSome l.far.best (λ found. l.from + found.0 ≤ l.walk.at);
  dead : AreDeadEnds l.self l.text l.dead_ends;
  line : AreOfOneLine l.fn.dead_ends l.dead_ends;
  kept : (place state : ℕ) → Keeps l.fn.dead_ends place state → Keeps l.dead_ends place state;
}

abbrev pub decreases-loop-next : goal.decreases-loop-next
decreases-loop-next l = length l.text - l.walk.at
