use Rattle.std.proofs.Common.{◌+◌, ◌*◌, length}
use Rattle.first_sets.proofs.KnownLemmas.{unknown_in}
use Rattle.first_sets.proofs.ReachLemmas.{IsReaching}
use Rattle.first_sets.proofs.reached_names.reached_names.Given as goal

abbrev pub invariant-loop-name : goal.invariant-loop-name
invariant-loop-name l = IsReaching l.grammar l.mentions.pairs l.known.items l.pending.items

abbrev pub decreases-loop-name : goal.decreases-loop-name
decreases-loop-name l = unknown_in l.known.items * (length l.mentions.pairs + 1) + length l.pending.items
