-- The laws of floors and maps as a piece grows.
use Rattle.std.specs.Prelude.{◌≡◌, ℕ, ◌<◌, ◌≤◌, List, [], ◌∷◌, ◌++◌, length, Option, Some, None, IsSome, option_and_then}
use Rattle.grammar_data.specs.declared.rule.Sym.{Sym}
use Rattle.grammar_data.specs.declared.rule.Sym.TheVariants.{Token}
use Rattle.grammar_data.specs.declared.token.Token.{Token as TextToken}
use Rattle.tree_theory.specs.Stores.{Store}
use Rattle.table_data.specs.Tables.{Tables, step_by}
use Rattle.map_theory.specs.Maps.{StateMap, target, IsMapOf}
use Rattle.map_theory.specs.Relations.{AreShiftStarts, IsIdentityOf, IsThenSymbol, IsRestricted, AreAlive, IsBack}
use Rattle.piece_theory.specs.Pieces.{Fault, Opened, Floor, Held, Piece}
use Rattle.piece_theory.specs.Applies.{HasSymbol, right_of, hidden_symbols}
use Rattle.piece_theory.specs.WellMade.{shifting, start_of, leading, IsLevel, AreStacked, AreSteps}
use Rattle.piece_theory.specs.Laws.{HasMore}
use Rattle.level_laws.specs.Levels.{IsMoved, dying, Survive}
use Rattle.level_laws.specs.Growing.{FollowOn, IsTight, IsFresh, IsGrowing}

-- a floor stays exact where starts err
abbrev pub MovedLevelLaw : Type 0
MovedLevelLaw = (dies : ℕ → Option Fault) (lead : ℕ → Option ℕ) (f g : Floor) → IsLevel lead f → IsMoved dies f g → IsLevel lead g

-- and so do floors of which the last one changes so
abbrev pub MovedFloorsLaw : Type 0
MovedFloorsLaw = (t : Tables) (first : TextToken) (dies : ℕ → Option Fault) (lower : List Floor) (f g : Floor) → AreStacked t first lower f → IsMoved dies f g → AreStacked t first lower g

-- a floor without faults whose starts are those that lead on is exact
abbrev pub NewLevelLaw : Type 0
NewLevelLaw = (lead : ℕ → Option ℕ) (f : Floor) → f.faults ≡ [] → IsMapOf lead f.starts → IsLevel lead f

-- the states that shift a token, each to itself, are those that lead on at the first floor
abbrev pub ShiftingLaw : Type 0
ShiftingLaw = (t : Tables) (first : TextToken) (after starts : StateMap) → AreShiftStarts t first.id after → IsIdentityOf after starts → IsMapOf (shifting t first) starts

-- the states from which hidden symbols lead back to alive starts are those that lead on above them
abbrev pub LeadingLaw : Type 0
LeadingLaw = (t : Tables) (opened : Opened) (below starts : StateMap) → IsBack t (hidden_symbols t.rules (Some opened)) below starts → IsMapOf (leading t opened below) starts

-- a look: where the starts of the last floor all have a target in the last map, those that are left are the alive ones
abbrev pub LookStartsLaw : Type 0
LookStartsLaw = (t : Tables) (token : TextToken) (index : ℕ) (tops alive starts left : StateMap) → AreAlive t token.id tops alive → ((q : ℕ) → IsSome (target starts q) → IsSome (target tops q)) → IsRestricted starts alive left → Survive (dying t token index tops) starts left

-- and where the last map has alive starts alone, what is alive of it has exactly the starts that are left
abbrev pub LookMapLaw : Type 0
LookMapLaw = (t : Tables) (token : TextToken) (index : ℕ) (starts left : StateMap) (h fresh : Held) → IsTight starts h → Survive (dying t token index h.states) starts left → fresh.kid ≡ h.kid → AreAlive t token.id h.states fresh.states → IsFresh left h fresh

-- a piece of one token
abbrev pub OpenedPieceLaw : Type 0
OpenedPieceLaw = (t : Tables) (store : Store) (p : Piece) (f : Floor) (h : Held) → p.floors ≡ f ∷ [] → p.stack ≡ h ∷ [] → f.opened ≡ None → f.faults ≡ [] → IsMapOf (shifting t p.first) f.starts → HasSymbol t.rules store h.kid (Token p.first.id) → AreShiftStarts t p.first.id h.states → IsGrowing t store p [] f [] h 0

-- a look: starts of the last floor err, and the last entry loses them
abbrev pub LookedPieceLaw : Type 0
LookedPieceLaw = (t : Tables) (store : Store) (p looked : Piece) (lower : List Floor) (f g : Floor) (under : List Held) (h fresh : Held) (stale : ℕ) (dies : ℕ → Option Fault) → IsGrowing t store p lower f under h stale → looked.first ≡ p.first → IsMoved dies f g → IsFresh g.starts h fresh → looked.floors ≡ lower ++ g ∷ [] → looked.stack ≡ under ++ fresh ∷ [] → IsGrowing t store looked lower g under fresh (length under)

-- an entry is pushed
abbrev pub PushedPieceLaw : Type 0
PushedPieceLaw = (t : Tables) (store : Store) (p more : Piece) (lower : List Floor) (f : Floor) (under : List Held) (h new : Held) (x : Sym) (stale : ℕ) → IsGrowing t store p lower f under h stale → more.first ≡ p.first → more.floors ≡ p.floors → HasSymbol t.rules store new.kid x → IsThenSymbol t x h.states new.states → more.stack ≡ p.stack ++ new ∷ [] → IsGrowing t store more lower f (under ++ h ∷ []) new stale

-- entries are taken off, and the one that is left on top loses the starts that have erred
abbrev pub TakenPieceLaw : Type 0
TakenPieceLaw = (t : Tables) (store : Store) (p left : Piece) (lower : List Floor) (f : Floor) (under : List Held) (h : Held) (stale : ℕ) (low taken : List Held) (top fresh : Held) → IsGrowing t store p lower f under h stale → left.first ≡ p.first → left.floors ≡ p.floors → p.stack ≡ (low ++ top ∷ []) ++ taken → IsFresh f.starts top fresh → left.stack ≡ low ++ fresh ∷ [] → IsGrowing t store left lower f low fresh (length low)

-- where that one has alive starts alone, nothing is left out
abbrev pub TakenFreshLaw : Type 0
TakenFreshLaw = (t : Tables) (store : Store) (p left : Piece) (lower : List Floor) (f : Floor) (under : List Held) (h : Held) (stale : ℕ) (low taken : List Held) (top : Held) → IsGrowing t store p lower f under h stale → left.first ≡ p.first → left.floors ≡ p.floors → p.stack ≡ (low ++ top ∷ []) ++ taken → stale ≤ length low → left.stack ≡ low ++ top ∷ [] → IsGrowing t store left lower f low top stale

-- all entries are taken off, and one is pushed
abbrev pub WholePieceLaw : Type 0
WholePieceLaw = (t : Tables) (store : Store) (p more : Piece) (lower : List Floor) (f : Floor) (under : List Held) (h new : Held) (x : Sym) (stale : ℕ) → IsGrowing t store p lower f under h stale → more.first ≡ p.first → more.floors ≡ p.floors → HasSymbol t.rules store new.kid x → IsMapOf (λ q. option_and_then (λ p. step_by t p x) (start_of f.starts q)) new.states → more.stack ≡ new ∷ [] → IsGrowing t store more lower f [] new 0

-- all entries are taken off with hidden symbols below them, which opens a floor, and one is pushed
abbrev pub FloorPieceLaw : Type 0
FloorPieceLaw = (t : Tables) (store : Store) (p more : Piece) (lower : List Floor) (f g : Floor) (under : List Held) (h new : Held) (x : Sym) (stale : ℕ) (opened : Opened) → IsGrowing t store p lower f under h stale → more.first ≡ p.first → g.opened ≡ Some opened → g.faults ≡ [] → 0 < opened.hidden → opened.hidden < length (right_of t.rules opened.rule) → IsMapOf (leading t opened f.starts) g.starts → HasSymbol t.rules store new.kid x → IsMapOf (λ q. option_and_then (λ p. step_by t p x) (start_of g.starts q)) new.states → more.floors ≡ p.floors ++ g ∷ [] → more.stack ≡ new ∷ [] → IsGrowing t store more p.floors g [] new 0

-- the same in a store that has more nodes
abbrev pub MoreNodesLaw : Type 0
MoreNodesLaw = (t : Tables) (store more : Store) (p : Piece) (lower : List Floor) (f : Floor) (under : List Held) (h : Held) (stale : ℕ) → HasMore store more → IsGrowing t store p lower f under h stale → IsGrowing t more p lower f under h stale

-- the last entry has alive starts alone
abbrev pub LastMapLaw : Type 0
LastMapLaw = (t : Tables) (store : Store) (p : Piece) (lower : List Floor) (f : Floor) (under : List Held) (h : Held) (stale : ℕ) → IsGrowing t store p lower f under h stale → IsTight f.starts h

-- at the end the maps, restricted to the alive starts, are exact
pub data AreFresh (alive : StateMap) : List Held → List Held → Type 0 where
  fresh_none : AreFresh alive [] []
  fresh_more : {h fresh : Held} {hs more : List Held} → IsFresh alive h fresh → AreFresh alive hs more → AreFresh alive (h ∷ hs) (fresh ∷ more)

abbrev pub ExactMapsLaw : Type 0
ExactMapsLaw = (t : Tables) (store : Store) (alive : StateMap) (hs fresh : List Held) → FollowOn t store alive (start_of alive) hs → AreFresh alive hs fresh → AreSteps t store (start_of alive) fresh
