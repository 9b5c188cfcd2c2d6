-- The deaths at a look, as a list: each start of the last map whose state errs on the token, in the order of the starts.
-- Source: as of pieces.
use Rattle.std.specs.Prelude.{◌≡◌, ◌≢◌, ℕ, ◌⊎◌, List, [], ◌∷◌, ◌++◌, filter_map, length, AllPairs, None, IsSome}
use Rattle.grammar_data.specs.declared.token.Token.{Token as TextToken}
use Rattle.tree_theory.specs.Stores.{Store}
use Rattle.table_data.specs.Tables.{Tables, act_in}
use Rattle.lawful_theory.specs.Lawful.{IsLawful}
use Rattle.map_theory.specs.Maps.{StateMap, target, IsRising}
use Rattle.map_theory.specs.Relations.{AreAlive, IsRestricted}
use Rattle.map_theory.specs.Agreements.{NoneLeft, AreSeveral}
use Rattle.part_theory.specs.Parts.{FirstPart}
use Rattle.piece_theory.specs.Pieces.{Fault, Floor, Held, Piece, fault_at}
use Rattle.context_laws.specs.Contexts.{LeadFromStates}
use Rattle.level_laws.specs.Levels.{IsMoved, fault_of, dying}
use Rattle.leaf_laws.specs.Leaves.{IsLeaf, IsOpenPiece, HasStart}
use Rattle.leaf_laws.specs.Steps.{LooksAt}

-- each start of the map whose state errs on the token, with the fault that it gets
abbrev pub deaths : Tables → TextToken → ℕ → StateMap → List Fault
deaths t token index m = filter_map (λ pair. fault_of token index pair.0 pair.1 (act_in t pair.1 token.id)) m

-- the deaths behind the faults of a floor, and its starts restricted to the alive ones
abbrev pub DeathsLaw : Type 0
DeathsLaw = (t : Tables) (token : TextToken) (index : ℕ) (tops alive : StateMap) (f g : Floor) → IsRising tops → AreAlive t token.id tops alive → ((q : ℕ) → IsSome (target f.starts q) → IsSome (target tops q)) → ((q : ℕ) → target f.starts q ≡ None → target tops q ≡ None) → ((q : ℕ) → IsSome (target f.starts q) → fault_at f.faults q ≡ None) → AllPairs {X = Fault} (λ x y. x.start ≢ y.start) f.faults
    → g.opened ≡ f.opened → IsRestricted f.starts alive g.starts → g.faults ≡ f.faults ++ deaths t token index tops → IsMoved (dying t token index tops) f g

-- so a leaf looks at a token
abbrev pub LooksByDeathsLaw : Type 0
LooksByDeathsLaw = (t : Tables) → IsLawful t → LeadFromStates t → (store : Store) (p looked : Piece) (w : List TextToken) (token : TextToken) (lower : List Floor) (f g : Floor) (under : List Held) (h fresh : Held) (stale : ℕ) → IsLeaf t store p w (token ∷ []) lower f under h stale
    → looked.first ≡ p.first → looked.floors ≡ lower ++ g ∷ [] → looked.stack ≡ under ++ fresh ∷ [] → g.opened ≡ f.opened → IsRestricted f.starts fresh.states g.starts → g.faults ≡ f.faults ++ deaths t token (length w) h.states → fresh.kid ≡ h.kid → AreAlive t token.id h.states fresh.states
    → LooksAt t token (length w) p looked lower f g under h fresh

-- and so does an open piece
abbrev pub OpenLooksByDeathsLaw : Type 0
OpenLooksByDeathsLaw = (t : Tables) → IsLawful t → LeadFromStates t → (store : Store) (p looked : Piece) (w : List TextToken) (token : TextToken) (lower : List Floor) (f g : Floor) (under : List Held) (h fresh : Held) (stale : ℕ) → IsOpenPiece t store p w (token ∷ []) lower f under h stale
    → looked.first ≡ p.first → looked.floors ≡ lower ++ g ∷ [] → looked.stack ≡ under ++ fresh ∷ [] → g.opened ≡ f.opened → IsRestricted f.starts fresh.states g.starts → g.faults ≡ f.faults ++ deaths t token (length w) h.states → fresh.kid ≡ h.kid → AreAlive t token.id h.states fresh.states
    → LooksAt t token (length w) p looked lower f g under h fresh

-- after a look some start is alive, or all have died and the leaf has the first part
abbrev pub LookStartLaw : Type 0
LookStartLaw = (t : Tables) → IsLawful t → LeadFromStates t → (store : Store) (p looked : Piece) (w : List TextToken) (token : TextToken) (rest : List TextToken) (lower : List Floor) (f g : Floor) (under : List Held) (h fresh : Held) (stale : ℕ) → IsLeaf t store p w (token ∷ []) lower f under h stale → LooksAt t token (length w) p looked lower f g under h fresh → HasStart t p w f
    → HasStart t looked w g ⊎ FirstPart t looked.first.id (w ++ token ∷ rest) (length w)

-- where a leaf is stuck it has the first part, if it wasn't known before
abbrev pub StuckPartLaw : Type 0
StuckPartLaw = (t : Tables) → IsLawful t → LeadFromStates t → (store : Store) (p : Piece) (w : List TextToken) (token : TextToken) (rest : List TextToken) (lower : List Floor) (f : Floor) (under : List Held) (h : Held) (stale : ℕ) → IsLeaf t store p w (token ∷ []) lower f under h stale → HasStart t p w f ⊎ FirstPart t p.first.id (w ++ token ∷ rest) (length w) → NoneLeft t token.id h.states ⊎ AreSeveral t token.id h.states → FirstPart t p.first.id (w ++ token ∷ rest) (length w)
