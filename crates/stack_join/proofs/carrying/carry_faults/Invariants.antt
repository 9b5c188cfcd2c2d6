use Rattle.std.proofs.Common.{◌≡◌, ◌++◌, take}
use Rattle.landing_laws.specs.Carrying.{carried_faults}
use Rattle.stack_join.proofs.carrying.carry_faults.Given as goal

abbrev pub invariant-loop-i : goal.invariant-loop-i
invariant-loop-i l = l.faults ≡ l.initial.faults ++ carried_faults l.tokens l.floor (take l.i l.map)
