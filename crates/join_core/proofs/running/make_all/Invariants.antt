use Rattle.std.proofs.Common.{take}
use Rattle.core_theory.specs.Core.{IsCovered}
use Rattle.join_core.specs.Calls.{RunsCalls}
use Rattle.join_core.proofs.running.make_all.Given as goal

-- the calls so far lead to the state
abbrev pub invariant-loop-made : goal.invariant-loop-made
invariant-loop-made l = RunsCalls l.fn.core (take l.made l.calls) l.core × IsCovered l.core
