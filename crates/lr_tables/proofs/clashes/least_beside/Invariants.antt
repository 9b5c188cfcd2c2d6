use Rattle.std.proofs.Common.{take}
use Rattle.lr_tables.specs.Clashing.{HasNoneBeside}
use Rattle.lr_tables.proofs.clashes.least_beside.Given as goal

abbrev pub invariant-loop-entry : goal.invariant-loop-entry
invariant-loop-entry l = HasNoneBeside l.fn.grammar (take l.entry-index l.entries) l.token l.known
