use Rattle.item_sets.specs.Spots.{AreFrontsBelow}
use Rattle.item_sets.proofs.table.fronts_of.Given as goal

abbrev pub invariant-loop-rule : goal.invariant-loop-rule
invariant-loop-rule l = AreFrontsBelow l.fn.grammar l.rule l.name l.spots.items
