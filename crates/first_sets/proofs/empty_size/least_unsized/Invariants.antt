use Rattle.first_sets.specs.EmptySizes.{AreSized}
use Rattle.first_sets.proofs.empty_size.least_unsized.Given as goal

abbrev pub invariant-loop-name : goal.invariant-loop-name
invariant-loop-name l = AreSized l.nullable l.sizes l.name
