use Rattle.std.proofs.Common.{take}
use Rattle.item_sets.specs.Closing.{IsRowOpened}
use Rattle.item_sets.proofs.closing.Closing.open_name.Given as goal

abbrev pub invariant-loop-spot : goal.invariant-loop-spot
invariant-loop-spot l = IsRowOpened (take l.spot-index l.spot-items) l.from l.fn.self.aheads l.fn.self.work l.self.aheads l.self.work
