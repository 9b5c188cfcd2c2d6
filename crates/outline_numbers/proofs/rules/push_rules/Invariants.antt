use Rattle.std.proofs.Common.{◌≡◌, ◌++◌, map, take}
use Rattle.outline_theory.specs.Numbering.{index_of, rule_by}
use Rattle.outline_numbers.specs.Symbols.{lists_in}
use Rattle.outline_numbers.proofs.rules.push_rules.Given as goal

abbrev pub invariant-loop-alternative : goal.invariant-loop-alternative
invariant-loop-alternative l =
    l.rules.items ≡ l.fn.rules.items ++ map (rule_by (lists_in l.numbers) (index_of (lists_in l.numbers).names l.group.left.bytes)) (take l.alternative-index l.group.alternatives)
