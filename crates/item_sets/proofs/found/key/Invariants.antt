use Rattle.std.proofs.Common.{◌≡◌, take}
use Rattle.item_sets.specs.Successors.{key_of}
use Rattle.item_sets.proofs.found.key.Given as goal

abbrev pub invariant-loop-entry : goal.invariant-loop-entry
invariant-loop-entry l = l.key.items ≡ key_of (take l.entry-index l.kernel)
