use Rattle.std.proofs.Common.{◌≡◌, [], replicate}
use Rattle.item_sets.proofs.successors.empty_sets.Given as goal

abbrev pub invariant-loop-place : goal.invariant-loop-place
invariant-loop-place l = l.sets.items ≡ replicate l.place []
