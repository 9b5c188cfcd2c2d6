use Rattle.std.proofs.Common.{◌+◌, ◌*◌, length}
use Rattle.first_sets.proofs.KnownLemmas.{IsSpreading, unknown_in}
use Rattle.first_sets.proofs.known_names.known_names.Given as goal

abbrev pub invariant-loop-rule : goal.invariant-loop-rule
invariant-loop-rule l = IsSpreading l.grammar l.lists l.known.items l.pending.items

abbrev pub decreases-loop-rule : goal.decreases-loop-rule
decreases-loop-rule l = unknown_in l.known.items * (length l.uses.pairs + 1) + length l.pending.items
