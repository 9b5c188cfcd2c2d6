use Rattle.std.proofs.Common.{◌+◌, ◌*◌, length}
use Rattle.first_sets.proofs.FillLemmas.{IsFilling, room}
use Rattle.first_sets.proofs.first_tokens.first_tokens.Given as goal

abbrev pub invariant-loop-place : goal.invariant-loop-place
invariant-loop-place l = IsFilling l.grammar l.openings l.sets.items l.pending.items

abbrev pub decreases-loop-place : goal.decreases-loop-place
decreases-loop-place l = room l.sets.items * (length l.readers.pairs + 1) + length l.pending.items
