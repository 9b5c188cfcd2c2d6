use Rattle.std.proofs.Common.{◌≡◌, take}
use Rattle.std.specs.List.{flat_map}
use Rattle.outline_theory.specs.Numbering.{rules_by}
use Rattle.outline_numbers.specs.Symbols.{lists_in}
use Rattle.outline_numbers.proofs.rules.all_rules.Given as goal

abbrev pub invariant-loop-group : goal.invariant-loop-group
invariant-loop-group l = l.rules.items ≡ flat_map (rules_by (lists_in l.numbers)) (take l.group-index l.outline.groups)
