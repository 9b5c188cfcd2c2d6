use Rattle.std.proofs.Common.{◌≡◌, ◌++◌, take}
use Rattle.piece_blocks.specs.Faults.{lost}
use Rattle.piece_blocks.proofs.faults.add_lost.Given as goal

abbrev pub invariant-loop-i : goal.invariant-loop-i
invariant-loop-i l = l.faults.items ≡ l.initial.faults.items ++ lost (take l.i l.before) l.after l.token l.index
