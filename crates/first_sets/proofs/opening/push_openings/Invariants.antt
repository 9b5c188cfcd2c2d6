use Rattle.first_sets.proofs.OpeningLemmas.{AreOpenedTo}
use Rattle.first_sets.proofs.opening.push_openings.Given as goal

abbrev pub invariant-loop-symbol : goal.invariant-loop-symbol
invariant-loop-symbol l = AreOpenedTo l.nullable l.left l.right l.symbol-index l.fn.openings.items l.openings.items
