use Rattle.std.proofs.Common.{◌≡◌, map, take}
use Rattle.outline_theory.specs.Numbering.{symbol_by}
use Rattle.outline_numbers.specs.Symbols.{lists_in}
use Rattle.outline_numbers.proofs.rules.right_side.Given as goal

abbrev pub invariant-loop-symbol : goal.invariant-loop-symbol
invariant-loop-symbol l = l.side.items ≡ map (symbol_by (lists_in l.numbers)) (take l.symbol-index l.alternative.right)
