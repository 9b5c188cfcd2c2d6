use Rattle.std.proofs.Common.{◌≡◌, ◌↔◌, ◌<◌, ℕ, length, Contains}
use Rattle.first_sets.proofs.relation.numbers_below.Given as goal

abbrev pub invariant-loop-number : goal.invariant-loop-number
invariant-loop-number l = record {
  members : (n : ℕ) → Contains l.numbers.items n ↔ n < l.number;
  count : length l.numbers.items ≡ l.number;
}
