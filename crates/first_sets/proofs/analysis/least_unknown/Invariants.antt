use Rattle.first_sets.specs.EmptySizes.{AreKnownBelow}
use Rattle.first_sets.proofs.analysis.least_unknown.Given as goal

abbrev pub invariant-loop-name : goal.invariant-loop-name
invariant-loop-name l = AreKnownBelow l.known l.name
