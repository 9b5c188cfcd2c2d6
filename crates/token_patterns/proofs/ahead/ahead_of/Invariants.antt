use Rattle.std.proofs.Common.{ℕ, ◌*◌, ◌↔◌}
use Rattle.position_sets.specs.Sets.{Has, IsSetOfWords}
use Rattle.token_patterns.specs.Ahead.{IsBehindOneBelow}
use Rattle.token_patterns.proofs.ahead.ahead_of.Given as goal

abbrev pub invariant-loop-index : goal.invariant-loop-index
invariant-loop-index l = record {
  places : (q : ℕ) → Has l.ahead.items q ↔ IsBehindOneBelow l.positions l.set (64 * l.index) q;
  set : IsSetOfWords l.size l.ahead.items;
}
