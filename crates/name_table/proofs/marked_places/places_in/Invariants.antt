use Rattle.std.proofs.Common.{◌≡◌, ◌≤◌, length, drop}
use Rattle.name_table.specs.Markings.{marked_places}
use Rattle.name_table.proofs.marked_places.places_in.Given as goal

abbrev pub invariant-loop-left : goal.invariant-loop-left
invariant-loop-left l = record {
  within : l.left ≤ length l.right;
  are : l.places.items ≡ marked_places l.declared l.marking l.left (drop l.left l.right);
}

abbrev pub decreases-loop-left : goal.decreases-loop-left
decreases-loop-left l = l.left
