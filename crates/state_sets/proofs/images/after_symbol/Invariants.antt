use Rattle.std.proofs.Common.{◌≡◌, take, map}
use Rattle.table_data.specs.Tables.{step_by}
use Rattle.state_sets.proofs.images.after_symbol.Given as goal

abbrev pub invariant-loop-state : goal.invariant-loop-state
invariant-loop-state l = l.images.items ≡ map (λ p. step_by l.t p l.symbol) (take l.state-index l.states)
