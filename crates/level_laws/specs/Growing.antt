-- A piece as it grows from left to right. Its floors are exact. The maps of its entries need to be exact at the alive starts
-- alone: those that lie deeper in the stack may still have starts that have erred since they were pushed, and lose them when
-- they come to the top again. From some entry on, the last one included, they have alive starts alone.
-- Source: as of pieces; late restriction is this project's own.
use Rattle.std.specs.Prelude.{◌≡◌, ℕ, suc, ◌≤◌, if◌then◌else◌, List, [], ◌∷◌, ◌++◌, length, Option, None, IsSome, is_some, option_and_then}
use Rattle.grammar_data.specs.declared.rule.Sym.{Sym}
use Rattle.tree_theory.specs.Stores.{Store}
use Rattle.table_data.specs.Tables.{Tables, step_by}
use Rattle.map_theory.specs.Maps.{StateMap, target, IsRising, IsMapOf}
use Rattle.piece_theory.specs.Pieces.{Floor, Held, Piece}
use Rattle.piece_theory.specs.Applies.{HasSymbol}
use Rattle.piece_theory.specs.WellMade.{start_of, AreStacked}

-- the maps of the entries, the lowest first, take the states over which they are pushed one step on along their symbols, at
-- the alive starts; what they have for others is free
pub data FollowOn (t : Tables) (store : Store) (alive : StateMap) : (ℕ → Option ℕ) → List Held → Type 0 where
  follow_none : {from : ℕ → Option ℕ} → FollowOn t store alive from []
  follow : {from : ℕ → Option ℕ} {h : Held} {hs : List Held} (x : Sym) → HasSymbol t.rules store h.kid x → IsRising h.states → ((q : ℕ) → IsSome (target alive q) → target h.states q ≡ option_and_then (λ p. step_by t p x) (from q)) → FollowOn t store alive (target h.states) hs → FollowOn t store alive from (h ∷ hs)

-- the map has alive starts alone
abbrev pub IsTight : StateMap → Held → Type 0
IsTight alive h = (q : ℕ) → target alive q ≡ None → target h.states q ≡ None

-- the maps of the entries have alive starts alone, but for the first ones, so many, which may have others too
pub data AreTight (alive : StateMap) : ℕ → List Held → Type 0 where
  tight_none : {stale : ℕ} → AreTight alive stale []
  loose : {stale : ℕ} {h : Held} {hs : List Held} → AreTight alive stale hs → AreTight alive (suc stale) (h ∷ hs)
  tight : {h : Held} {hs : List Held} → IsTight alive h → AreTight alive 0 hs → AreTight alive 0 (h ∷ hs)

-- the entry has the alive starts of the other's map alone
pub record IsFresh (alive : StateMap) (h fresh : Held) : Type 0 where
  pub kid : fresh.kid ≡ h.kid
  pub states : IsMapOf (λ q. if is_some (target alive q) then target h.states q else None) fresh.states

-- a piece that grows: its lower floors and the last one, its lower entries and the last one
pub record IsGrowing (t : Tables) (store : Store) (p : Piece) (lower : List Floor) (f : Floor) (under : List Held) (h : Held) (stale : ℕ) : Type 0 where
  pub on_floors : p.floors ≡ lower ++ f ∷ []
  pub on_stack : p.stack ≡ under ++ h ∷ []
  pub floors : AreStacked t p.first lower f
  pub maps : FollowOn t store f.starts (start_of f.starts) p.stack
  pub tight : AreTight f.starts stale p.stack
  pub within : stale ≤ length under
