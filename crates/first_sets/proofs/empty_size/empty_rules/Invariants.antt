use Rattle.std.proofs.Common.{take}
use Rattle.first_sets.specs.EmptySizes.{AreEmptyRules}
use Rattle.first_sets.proofs.empty_size.empty_rules.Given as goal

abbrev pub invariant-loop-number : goal.invariant-loop-number
invariant-loop-number l = AreEmptyRules (take l.number l.grammar.rules) l.nullable l.numbers.items
