-- What a join does with the pieces of a part, and of all parts.
use Rattle.std.specs.Prelude.{◌≡◌, List, [], ◌∷◌, ◌++◌, Bool, true, false, Option, Some, None}
use Rattle.grammar_data.specs.declared.token.Token.{Token as TextToken}
use Rattle.tree_theory.specs.Stores.{Store}
use Rattle.tree_theory.specs.Walks.{Step}
use Rattle.table_data.specs.Tables.{Tables}
use Rattle.map_theory.specs.Maps.{StateMap}
use Rattle.piece_theory.specs.Pieces.{Piece}
use Rattle.piece_theory.specs.Lists.{ArePiecesOf}
use Rattle.piece_theory.specs.WellMade.{IsMade}
use Rattle.bare_theory.specs.Bare.{Bare, bare, bares}
use Rattle.piece_lists.specs.Lists.{pieces_in, pieces_of}
use Rattle.piece_lists.specs.declared.part.Part.{Part}
use Rattle.segment_parser.specs.declared.leaf.Leaf.{Leaf}
use Rattle.stack_join.specs.Joining.{IsAtSeam, IsDecided}

-- a look goes on, or has decided
abbrev pub IsSettling : Tables → List StateMap → Leaf → TextToken → Option Bool → Type 0
IsSettling t maps s token None = Unit {0}
IsSettling t maps s token (Some shifts) = IsDecided t maps s token shifts

-- the next piece is put on the open piece; or the open piece is stuck under its first token
abbrev pub IsPut : Tables → Store → List StateMap → Leaf → List Piece → Piece → List Piece → List TextToken → Bool → Type 0
IsPut t store maps s front right rest w true = IsAtSeam t store maps s front rest w
IsPut t store maps s front right rest w false = IsAtSeam t store maps s front (right ∷ rest) w × IsDecided t maps s right.first false

-- pieces of a part that are left: the open piece is stuck under the first of them
pub record AreLeft (t : Tables) (store : Store) (maps : List StateMap) (s : Leaf) (front rest : List Piece) (w : List TextToken) (closed : List Bare) : Type 0 where
  pub right : Piece
  pub others : List Piece
  pub same : bares (right ∷ others) ≡ closed
  pub at : IsAtSeam t store maps s front (right ∷ (others ++ rest)) w
  pub stuck : IsDecided t maps s right.first false

-- all pieces of a part are put on the open piece, or some are left
abbrev pub IsPartPut : Tables → Store → List StateMap → Leaf → List Piece → List Piece → List TextToken → Part → Bool → Type 0
IsPartPut t store maps s front rest w part true = (pieces_of part ≡ []) × IsAtSeam t store maps s front rest w
IsPartPut t store maps s front rest w part false = AreLeft t store maps s front rest w (pieces_of part)

-- pieces of parts are put on the open piece, which is stuck under the first of those that are left, if any are
pub record AreAllPut (t : Tables) (store : Store) (maps : List StateMap) (s : Leaf) (front : List Piece) (parts : List Part) (w : List TextToken) : Type 0 where
  pub left : List Piece
  pub same : bares left ≡ pieces_in parts
  pub at : IsAtSeam t store maps s front left w
  pub stuck : (right : Piece) (others : List Piece) → left ≡ right ∷ others → IsDecided t maps s right.first false

-- the last closed piece of a block is made
pub record HasLast (t : Tables) (store : Store) (closed : List Bare) : Type 0 where
  pub others : List Bare
  pub last : Piece
  pub parts : closed ≡ others ++ bare last ∷ []
  pub tokens : List TextToken
  pub steps : List Step
  pub made : IsMade t store last tokens steps

-- the last piece of the left list is closed again, and pieces of parts are left: all are pieces of the tokens
pub record AreAbsorbed (t : Tables) (store : Store) (front : List Piece) (others closed : List Bare) (parts : List Part) (w : List TextToken) : Type 0 where
  pub last : Piece
  pub left : List Piece
  pub same : closed ≡ others ++ bare last ∷ []
  pub same_left : bares left ≡ pieces_in parts
  pub are : ArePiecesOf t store (front ++ last ∷ left) w
