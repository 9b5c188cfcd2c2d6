use Rattle.std.proofs.Common.{◌≡◌, ◌≤◌, length, map, take}
use Rattle.state_sets.specs.Parts.{AreClassed, pairs_of}
use Rattle.state_sets.proofs.choosing.to_themselves.Given as goal

abbrev pub invariant-loop-i : goal.invariant-loop-i
invariant-loop-i l = record {
  classed : AreClassed l.building.starts.items l.building.classes.items l.building.targets.keys;
  pairs : pairs_of l.building.starts.items l.building.classes.items l.building.targets.keys ≡ map (λ pair. (pair.0, pair.0)) (take l.i l.arrow);
  few : length l.building.starts.items ≤ l.i;
}
