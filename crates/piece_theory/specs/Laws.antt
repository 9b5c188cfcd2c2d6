-- The laws of pieces.
use Rattle.std.specs.Prelude.{◌≡◌, ℕ, List, [], ◌∷◌, ◌++◌, Some}
use Rattle.grammar_data.specs.Grammar.{Rule}
use Rattle.grammar_data.specs.declared.token.Token.{Token as TextToken}
use Rattle.node_data.specs.declared.kid.Kid.{Kid}
use Rattle.tree_theory.specs.Stores.{Ref, Store, Supply, IsSupply}
use Rattle.tree_theory.specs.Walks.{Step}
use Rattle.table_data.specs.Tables.{Tables}
use Rattle.machine_theory.specs.Machine.{Entry}
use Rattle.map_theory.specs.Maps.{StateMap}
use Rattle.piece_theory.specs.Pieces.{Fault, Floor, Held, Piece}
use Rattle.piece_theory.specs.Applies.{Falls, Fails, Puts, Leaves, StandsFor}
use Rattle.piece_theory.specs.WellMade.{AreFloors, AreStacked, IsMade}
use Rattle.piece_theory.specs.Lists.{ArePieces}

-- floors let a stack through in one way at most
abbrev pub OneFallLaw : Type 0
OneFallLaw = (fs : List Floor) (s rest other : List Entry) (supply more : Supply) → Falls fs s rest supply → Falls fs s other more → (rest ≡ other) × (supply ≡ more)

-- floors have one fault for a stack at most
abbrev pub OneFaultLaw : Type 0
OneFaultLaw = (fs : List Floor) (s : List Entry) (fault other : Fault) → Fails fs s fault → Fails fs s other → fault ≡ other

-- floors that have a fault for a stack don't let it through
abbrev pub FallsOrFailsLaw : Type 0
FallsOrFailsLaw = (fs : List Floor) (s rest : List Entry) (supply : Supply) (fault : Fault) → Falls fs s rest supply → Fails fs s fault → ⊥

-- entries are pushed in one way at most, with one list of trees for a node
abbrev pub OnePutLaw : Type 0
OnePutLaw = (rules : List Rule) (store : Store) (supply : Supply) → IsSupply supply → (q : ℕ) (hs : List Held) (s last other : List Entry) → Puts rules store supply q hs s last → Puts rules store supply q hs s other → last ≡ other

-- a store that has more nodes has these
abbrev pub HasMore : Store → Store → Type 0
HasMore store more = (m : Ref) (r : ℕ) (kids : List Kid) → store m ≡ Some (r, kids) → more m ≡ Some (r, kids)

-- in a store that has more nodes a piece leaves the same stacks, and stands for the same tokens
abbrev pub LeavesMoreLaw : Type 0
LeavesMoreLaw = (rules : List Rule) (store more : Store) → HasMore store more → (p : Piece) (s last : List Entry) → Leaves rules store p s last → Leaves rules more p s last

abbrev pub StandsMoreLaw : Type 0
StandsMoreLaw = (t : Tables) (store more : Store) → HasMore store more → (p : Piece) (w next : List TextToken) → StandsFor t store p w next → StandsFor t more p w next

-- and is as well made
abbrev pub MadeMoreLaw : Type 0
MadeMoreLaw = (t : Tables) (store more : Store) → HasMore store more → (p : Piece) (w : List TextToken) (steps : List Step) → IsMade t store p w steps → IsMade t more p w steps

-- a piece has one list of tokens, and one walk
abbrev pub OneYieldLaw : Type 0
OneYieldLaw = (t : Tables) (store : Store) (p : Piece) (w other : List TextToken) (steps more : List Step) → IsMade t store p w steps → IsMade t store p other more → (w ≡ other) × (steps ≡ more)

-- floors are the same from the first up and from the last down
abbrev pub StackedLaw : Type 0
StackedLaw = (t : Tables) (first : TextToken) (lower : List Floor) (f : Floor) → AreStacked t first lower f → AreFloors t first (lower ++ f ∷ []) f.starts

abbrev pub FloorsLaw : Type 0
FloorsLaw = (t : Tables) (first : TextToken) (floors : List Floor) (last : StateMap) → AreFloors t first floors last → (lower : List Floor) × (f : Floor) × (floors ≡ lower ++ f ∷ []) × (f.starts ≡ last) × AreStacked t first lower f

-- an empty token list has no piece, and nothing to walk over
abbrev pub NoPieceLaw : Type 0
NoPieceLaw = (t : Tables) (store : Store) (next : List TextToken) (ps : List Piece) (steps : List Step) → ArePieces t store next ps [] steps → (ps ≡ []) × (steps ≡ [])
