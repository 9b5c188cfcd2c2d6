use Rattle.std.proofs.Common.{take}
use Rattle.map_theory.specs.Agreements.{Agrees}
use Rattle.state_sets.specs.Classes.{themselves}
use Rattle.state_sets.proofs.agreeing.agreement.Given as goal

abbrev pub invariant-loop-state : goal.invariant-loop-state
invariant-loop-state l = Agrees l.t l.fn.token (themselves (take l.state-index l.states)) l.agree
