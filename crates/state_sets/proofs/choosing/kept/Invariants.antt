use Rattle.std.proofs.Common.{◌≡◌, ◌≤◌, length, take}
use Rattle.std.specs.Prelude.{filter, is_some}
use Rattle.map_theory.specs.Maps.{target}
use Rattle.state_sets.specs.Parts.{AreClassed, pairs_of}
use Rattle.state_sets.proofs.choosing.kept.Given as goal

abbrev pub invariant-loop-i : goal.invariant-loop-i
invariant-loop-i l = record {
  classed : AreClassed l.building.starts.items l.building.classes.items l.building.targets.keys;
  pairs : pairs_of l.building.starts.items l.building.classes.items l.building.targets.keys ≡ filter (λ pair. is_some (target l.keep pair.0)) (take l.i l.arrow);
  few : length l.building.starts.items ≤ l.i;
}
