-- Errors that are carried back, as lists and maps. Where a floor of the next piece lands on a piece, the map over the entries
-- that are left tells the state over them for each alive start. The starts over whose states the floor errs get their faults,
-- which are put behind those of the piece's last floor, and are alive no more.
-- Source: as of pieces that are joined; the laws are this project's own.
use Rattle.std.specs.Prelude.{◌≡◌, ◌≢◌, ℕ, if◌then◌else◌, List, ◌++◌, filter_map, AllPairs, Option, Some, None, IsSome, is_some, option_and_then}
use Rattle.std.specs.Option.{option_map}
use Rattle.grammar_data.specs.Grammar.{Grammar}
use Rattle.grammar_data.specs.declared.token.Token.{Token as TextToken}
use Rattle.tree_theory.specs.Stores.{Store}
use Rattle.table_data.specs.Tables.{Tables}
use Rattle.lawful_theory.specs.Lawful.{IsLawfulFor}
use Rattle.map_theory.specs.Maps.{StateMap, target, IsRising, IsMapOf}
use Rattle.map_theory.specs.Relations.{IsRestricted}
use Rattle.piece_theory.specs.Pieces.{Fault, Floor, Piece, fault_at}
use Rattle.context_laws.specs.Contexts.{LeadFromStates}
use Rattle.level_laws.specs.Levels.{IsMoved}
use Rattle.join_theory.specs.Faults.{carried, carried_to, state_over, HasApart}
use Rattle.joined_laws.specs.Joining.{Beside}
use Rattle.joined_laws.specs.Joint.{IsJoining}

-- a state, where the floor has no fault for it
abbrev pub clear_on : Floor → ℕ → Option ℕ
clear_on f z = (if is_some (fault_at f.faults z) then None else Some z)

-- each start of the map over whose state the floor errs, with the fault that it gets
abbrev pub carried_faults : ℕ → Floor → StateMap → List Fault
carried_faults tokens f m = filter_map (λ pair. option_map (carried_to tokens pair.0) (fault_at f.faults pair.1)) m

-- the map has exactly the alive starts, each with the state over the entries
pub record IsOverAlive (alive tops : StateMap) (states : ℕ → Option ℕ) : Type 0 where
  pub rising : IsRising tops
  pub same : (q : ℕ) → IsSome (target alive q) → target tops q ≡ states q
  pub wide : (q : ℕ) → IsSome (target alive q) → IsSome (target tops q)
  pub tight : (q : ℕ) → target alive q ≡ None → target tops q ≡ None

-- each start has one fault at most, and an alive one none
pub record HasEachOnce (f : Floor) : Type 0 where
  pub apart : HasApart f
  pub rising : IsRising f.starts
  pub once : AllPairs {X = Fault} (λ x y. x.start ≢ y.start) f.faults

-- what becomes of the last floor `e` and of the map over the entries where the floor `f` lands on them
pub record IsCarried (tokens : ℕ) (tops left : StateMap) (states : ℕ → Option ℕ) (e g f : Floor) : Type 0 where
  pub moved : IsMoved (carried tokens states f) e g
  pub over : (q : ℕ) → target left q ≡ (if is_some (target g.starts q) then target tops q else None)

abbrev pub CarryLaw : Type 0
CarryLaw = (tokens : ℕ) (tops left : StateMap) (states : ℕ → Option ℕ) (e g f : Floor) → IsOverAlive e.starts tops states → HasEachOnce e → IsMapOf (λ q. option_and_then (clear_on f) (target tops q)) left
    → g.opened ≡ e.opened → IsRestricted e.starts left g.starts → g.faults ≡ e.faults ++ carried_faults tokens f tops → IsCarried tokens tops left states e g f

-- where it errs for none of the states, nothing changes
abbrev pub CarryNoneLaw : Type 0
CarryNoneLaw = (tokens : ℕ) (tops : StateMap) (states : ℕ → Option ℕ) (e f : Floor) → IsOverAlive e.starts tops states → HasEachOnce e → ((q z : ℕ) → target tops q ≡ Some z → fault_at f.faults z ≡ None) → IsMoved (carried tokens states f) e e

-- between two floors each alive start has a state over the entries
abbrev pub JoinWideLaw : Type 0
JoinWideLaw = (g : Grammar) (t : Tables) → IsLawfulFor g t → LeadFromStates t → (store now : Store) (left right p : Piece) (u v : List TextToken) (beside : Beside) (lower : List Floor) (e : Floor) (further : List Floor) → IsJoining t store now left right p u v beside lower e further
    → (q : ℕ) → IsSome (target e.starts q) → IsSome (state_over e.starts p.stack q)
