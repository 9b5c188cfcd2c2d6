use Rattle.std.proofs.Common.{◌≡◌, take, map}
use Rattle.map_theory.specs.Maps.{target}
use Rattle.state_sets.proofs.images.through.Given as goal

abbrev pub invariant-loop-state : goal.invariant-loop-state
invariant-loop-state l = l.images.items ≡ map (target l.next) (take l.state-index l.states)
