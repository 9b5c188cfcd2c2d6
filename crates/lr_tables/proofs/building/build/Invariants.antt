use Rattle.lr_tables.specs.Filling.{IsFilledTo}
use Rattle.lr_tables.proofs.building.build.Given as goal

abbrev pub invariant-loop-number : goal.invariant-loop-number
invariant-loop-number l = IsFilledTo l.fn.grammar l.collection l.number l.tables
