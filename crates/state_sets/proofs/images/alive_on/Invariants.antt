use Rattle.std.proofs.Common.{◌≡◌, take, map, cond, Some, None}
use Rattle.table_data.specs.Tables.{act_in}
use Rattle.map_theory.specs.Relations.{is_error}
use Rattle.state_sets.proofs.images.alive_on.Given as goal

abbrev pub invariant-loop-state : goal.invariant-loop-state
invariant-loop-state l = l.images.items ≡ map (λ p. cond (is_error (act_in l.t p l.fn.token)) None (Some p)) (take l.state-index l.states)
