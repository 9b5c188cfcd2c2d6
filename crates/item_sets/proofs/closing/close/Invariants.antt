use Rattle.std.proofs.Common.{◌+◌, ◌*◌, length, take}
use Rattle.item_sets.specs.Closing.{IsClosing, missing}
use Rattle.item_sets.proofs.closing.close.Given as goal

abbrev pub invariant-loop-entry : goal.invariant-loop-entry
invariant-loop-entry l = IsClosing l.fn.grammar l.kernel (take l.entry-index l.kernel) l.closing.aheads l.closing.work

abbrev pub invariant-loop-name : goal.invariant-loop-name
invariant-loop-name l = IsClosing l.fn.grammar l.fn.kernel l.fn.kernel l.closing.aheads l.closing.work

abbrev pub decreases-loop-name : goal.decreases-loop-name
decreases-loop-name l = 2 * missing l.closing.aheads + length l.closing.work
