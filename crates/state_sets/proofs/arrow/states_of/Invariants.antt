use Rattle.std.proofs.Common.{◌≡◌, take}
use Rattle.state_sets.proofs.arrow.states_of.Given as goal

abbrev pub invariant-loop-number : goal.invariant-loop-number
invariant-loop-number l = l.states.items ≡ take l.number-index l.numbers
