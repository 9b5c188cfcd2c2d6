use Rattle.std.proofs.Common.{◌≤◌, length, cond, Some, None}
use Rattle.std.specs.Prelude.{is_some, option_and_then}
use Rattle.map_theory.specs.Maps.{target, walk_by}
use Rattle.state_sets.specs.Parts.{AreClassed, pairs_of}
use Rattle.state_sets.specs.Within.{AreWithin}
use Rattle.state_sets.proofs.MakingLemmas.{IsMadeTo}
use Rattle.state_sets.proofs.making.starts_before.Given as goal

abbrev pub invariant-loop-number : goal.invariant-loop-number
invariant-loop-number l = record {
  classed : AreClassed l.building.starts.items l.building.classes.items l.building.targets.keys;
  made : IsMadeTo (λ q. option_and_then (λ p. cond (is_some (target l.arrow p)) (Some p) None) (walk_by l.t q l.symbols)) l.number (pairs_of l.building.starts.items l.building.classes.items l.building.targets.keys);
  within : AreWithin l.t.states (pairs_of l.building.starts.items l.building.classes.items l.building.targets.keys);
  few : length l.building.starts.items ≤ l.number;
}
