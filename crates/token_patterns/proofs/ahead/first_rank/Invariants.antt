use Rattle.std.proofs.Common.{ℕ, ◌+◌, ◌<◌}
use Rattle.position_sets.specs.Sets.{Has}
use Rattle.token_patterns.proofs.ahead.first_rank.Given as goal

abbrev pub invariant-loop-rank : goal.invariant-loop-rank
invariant-loop-rank l = (other : ℕ) → other < l.rank → Has l.set (l.ends + other) → ⊥
