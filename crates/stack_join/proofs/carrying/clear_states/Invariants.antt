use Rattle.std.proofs.Common.{◌≡◌, map, take}
use Rattle.landing_laws.specs.Carrying.{clear_on}
use Rattle.state_sets.specs.Classes.{targets_of}
use Rattle.stack_join.proofs.carrying.clear_states.Given as goal

abbrev pub invariant-loop-class : goal.invariant-loop-class
invariant-loop-class l = l.images.items ≡ map (clear_on l.floor) (take l.class (targets_of l.arrow))
