-- The laws of maps that are found again.
use Rattle.std.specs.Prelude.{◌≡◌, ℕ, if◌then◌else◌, List, Option, None, is_some}
use Rattle.grammar_data.specs.declared.token.Token.{Token as TextToken}
use Rattle.tree_theory.specs.Stores.{Store}
use Rattle.table_data.specs.Tables.{Tables}
use Rattle.map_theory.specs.Maps.{StateMap, target}
use Rattle.piece_theory.specs.Pieces.{Floor, Held, Piece}
use Rattle.piece_theory.specs.WellMade.{AreSteps}
use Rattle.level_laws.specs.Growing.{FollowOn, IsGrowing}
use Rattle.level_laws.specs.Laws.{AreFresh}
use Rattle.leaf_laws.specs.Leaves.{IsLeaf, IsOpenPiece}
use Rattle.retrace_laws.specs.Retraced.{HaveSameKids, IsRetraced}

-- steps over the same kids, from the states below at the alive starts and at no others, lead to the maps over the entries
-- with alive starts alone
abbrev pub RetracedMapsLaw : Type 0
RetracedMapsLaw = (t : Tables) (store : Store) (alive : StateMap) (from again : ℕ → Option ℕ) (hs fresh : List Held) → FollowOn t store alive from hs → ((q : ℕ) → again q ≡ (if is_some (target alive q) then from q else None)) → AreSteps t store again fresh → HaveSameKids hs fresh → AreFresh alive hs fresh

-- with them the piece is one that grows, whose maps have alive starts alone from the same entry on
abbrev pub RetracedPieceLaw : Type 0
RetracedPieceLaw = (t : Tables) (store : Store) (p again : Piece) (lower : List Floor) (f : Floor) (under after : List Held) (h top : Held) (stale : ℕ) → IsGrowing t store p lower f under h stale → IsRetraced f p again after top → IsGrowing t store again lower f after top stale

-- an open piece stays one
abbrev pub RetracedOpenLaw : Type 0
RetracedOpenLaw = (t : Tables) (store : Store) (p again : Piece) (w next : List TextToken) (lower : List Floor) (f : Floor) (under after : List Held) (h top : Held) (stale : ℕ) → IsOpenPiece t store p w next lower f under h stale → IsRetraced f p again after top → IsOpenPiece t store again w next lower f after top stale

-- and a leaf too
abbrev pub RetracedLeafLaw : Type 0
RetracedLeafLaw = (t : Tables) (store : Store) (p again : Piece) (w next : List TextToken) (lower : List Floor) (f : Floor) (under after : List Held) (h top : Held) (stale : ℕ) → IsLeaf t store p w next lower f under h stale → IsRetraced f p again after top → IsLeaf t store again w next lower f after top stale
