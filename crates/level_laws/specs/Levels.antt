-- What becomes of a floor of a piece where alive starts err: they lose their targets and get faults, and nothing else
-- changes. Where the piece looks at its next token, a start errs where the state on top of the last entry does.
-- Source: as of pieces.
use Rattle.std.specs.Prelude.{◌≡◌, ◌≢◌, ℕ, if◌then◌else◌, AllPairs, Option, Some, None, IsSome, is_some, option_and_then}
use Rattle.grammar_data.specs.declared.token.Token.{Token as TextToken}
use Rattle.table_data.specs.declared.act.Act.{Act}
use Rattle.table_data.specs.declared.act.Act.TheVariants.{Shift, Reduce, Accept, Error}
use Rattle.table_data.specs.Tables.{Tables, act_in}
use Rattle.map_theory.specs.Maps.{StateMap, target, IsRising, IsMapOf}
use Rattle.piece_theory.specs.Pieces.{Fault, Floor, fault_at}

-- `dies` has the fault that each start gets, if it errs: an alive one that errs has this fault then and no target, and all
-- that don't err are as they were
pub record IsMoved (dies : ℕ → Option Fault) (f g : Floor) : Type 0 where
  pub opened : g.opened ≡ f.opened
  pub stay : (q : ℕ) → dies q ≡ None → target g.starts q ≡ target f.starts q
  pub gone : (q : ℕ) → IsSome (dies q) → target g.starts q ≡ None
  pub dead : (q : ℕ) → IsSome (target f.starts q) → fault_at g.faults q ≡ dies q
  pub kept : (q : ℕ) → target f.starts q ≡ None → fault_at g.faults q ≡ fault_at f.faults q
  pub rising : IsRising g.starts
  pub once : AllPairs {X = Fault} (λ x y. x.start ≢ y.start) g.faults

-- the fault of a start over which this state errs on the token at this index, if it does
abbrev pub fault_of : TextToken → ℕ → ℕ → ℕ → Act → Option Fault
fault_of token index start state (Shift p) = None
fault_of token index start state (Reduce r) = None
fault_of token index start state Accept = None
fault_of token index start state Error = Some (record { start = start; index = index; token = token; state = state })

-- the fault that a start gets where the state that the map has for it errs
abbrev pub dying : Tables → TextToken → ℕ → StateMap → ℕ → Option Fault
dying t token index tops q = option_and_then (λ p. fault_of token index q p (act_in t p token.id)) (target tops q)

-- what is left of a map where the starts that err are left out
abbrev pub Survive : (ℕ → Option Fault) → StateMap → StateMap → Type 0
Survive dies m n = IsMapOf (λ q. if is_some (dies q) then None else target m q) n
