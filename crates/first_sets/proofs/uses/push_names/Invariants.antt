use Rattle.std.proofs.Common.{take}
use Rattle.first_sets.specs.KnownNames.{HasNamesOf}
use Rattle.first_sets.proofs.uses.push_names.Given as goal

abbrev pub invariant-loop-symbol : goal.invariant-loop-symbol
invariant-loop-symbol l = HasNamesOf (take l.symbol-index l.right) l.number l.fn.pairs.items l.pairs.items
