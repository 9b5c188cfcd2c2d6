use Rattle.std.proofs.Common.{◌≡◌, length, None}
use Rattle.std.specs.Prelude.{All}
use Rattle.state_sets.proofs.spreading.unknown.Given as goal

abbrev pub invariant-loop : goal.invariant-loop
invariant-loop l = (length l.numbers.items ≡ l.counter) × All (λ number. number ≡ None) l.numbers.items
