-- Errors that are carried back. A piece is put on the entries of another: where the state over the entries errs on a floor of
-- the piece, the start below the entries errs too, so many tokens later.
use Rattle.std.specs.Prelude.{◌≡◌, ℕ, ◌+◌, List, [], ◌∷◌, Option, None, IsSome, option_and_then}
use Rattle.std.specs.Option.{option_map}
use Rattle.map_theory.specs.Maps.{StateMap, target}
use Rattle.piece_theory.specs.Pieces.{Fault, Floor, Held, fault_at}
use Rattle.piece_theory.specs.WellMade.{start_of}

-- the second fault is the first, found so many tokens later
pub record IsLaterBy (tokens : ℕ) (x y : Fault) : Type 0 where
  pub index : y.index ≡ tokens + x.index
  pub token : y.token ≡ x.token
  pub state : y.state ≡ x.state

-- the state over entries, for the state below them; where there is no entry it is the one from which they go on
abbrev pub over : Option ℕ → List Held → ℕ → Option ℕ
over from [] q = from
over from (h ∷ hs) q = over (target h.states q) hs q

-- the same for the starts of a map
abbrev pub state_over : StateMap → List Held → ℕ → Option ℕ
state_over starts hs q = over (start_of starts q) hs q

-- a fault of the state over the entries, as one of the start below them
abbrev pub carried_to : ℕ → ℕ → Fault → Fault
carried_to tokens q fault = record { start = q; index = tokens + fault.index; token = fault.token; state = fault.state }

-- the fault that each start gets from the floor that is put on, by the states over the entries
abbrev pub carried : ℕ → (ℕ → Option ℕ) → Floor → ℕ → Option Fault
carried tokens states f q = option_map (carried_to tokens q) (option_and_then (fault_at f.faults) (states q))

-- no alive start has a fault
abbrev pub HasApart : Floor → Type 0
HasApart f = (q : ℕ) → IsSome (target f.starts q) → fault_at f.faults q ≡ None
