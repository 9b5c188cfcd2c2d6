use Rattle.state_sets.proofs.SpreadLemmas.{IsSpread}
use Rattle.state_sets.proofs.spreading.spread.Given as goal

abbrev pub invariant-loop-i : goal.invariant-loop-i
invariant-loop-i l = IsSpread l.starts l.classes l.images l.i l.building.starts.items l.building.classes.items l.building.targets.keys l.known.items
