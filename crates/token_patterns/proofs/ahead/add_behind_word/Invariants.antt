use Rattle.std.proofs.Common.{ℕ, ◌↔◌}
use Rattle.position_sets.specs.Sets.{Has, IsSetOfWords}
use Rattle.token_patterns.specs.Ahead.{IsBehindOneBelow}
use Rattle.token_patterns.proofs.ahead.add_behind_word.Given as goal

abbrev pub invariant-loop-place : goal.invariant-loop-place
invariant-loop-place l = record {
  places : (q : ℕ) → Has l.ahead.items q ↔ IsBehindOneBelow l.positions l.set l.place q;
  set : IsSetOfWords l.size l.ahead.items;
}
