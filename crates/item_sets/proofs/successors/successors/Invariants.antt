use Rattle.std.proofs.Common.{take}
use Rattle.item_sets.specs.Successors.{AreSuccessors}
use Rattle.item_sets.proofs.successors.successors.Given as goal

abbrev pub invariant-loop-entry : goal.invariant-loop-entry
invariant-loop-entry l = AreSuccessors l.table.rows.items l.width (take l.entry-index l.entries) l.kernels.items
