use Rattle.std.proofs.Common.{◌≡◌}
use Rattle.std.specs.Prelude.{drop}
use Rattle.outline_theory.specs.Limits.{long_side}
use Rattle.outline_numbers.proofs.limits.first_long_side.Given as goal

abbrev pub invariant-loop-rule : goal.invariant-loop-rule
invariant-loop-rule l = long_side l.rules ≡ long_side (drop l.rule-index l.rules)
