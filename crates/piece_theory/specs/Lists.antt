-- Lists of pieces. A piece is stuck under a token where the states over its last entry don't agree on what to do: all err,
-- or several do different things. A list of pieces is settled where each piece but the last is stuck under the first token
-- of the next. It is pieces of a token list where that is the tokens of its pieces joined, each piece is well made and
-- stands for its tokens followed by the next piece's first token, the last by nothing, the list is settled, and each node
-- of the store stands exactly once in the trees of the entries. The floors' nodes alone have hidden kids.
-- Several lists may be pieces of one token list; for an empty one there is no piece, and no node.
-- Source: as of pieces; settled lists are this project's own.
use Rattle.std.specs.Prelude.{◌≡◌, ◌⊎◌, List, [], ◌∷◌, ◌++◌}
use Rattle.grammar_data.specs.declared.token.Token.{Token as TextToken}
use Rattle.tree_theory.specs.Stores.{Ref, Store}
use Rattle.tree_theory.specs.Walks.{Step}
use Rattle.table_data.specs.Tables.{Tables}
use Rattle.map_theory.specs.Agreements.{NoneLeft, AreSeveral}
use Rattle.use_theory.specs.Distinct.{IsDistinct}
use Rattle.piece_theory.specs.Pieces.{Held, Piece, floor_nodes}
use Rattle.piece_theory.specs.Applies.{StandsFor, TakesRight}
use Rattle.piece_theory.specs.WellMade.{IsMade}

-- the piece is stuck under the token
pub record IsStuck (t : Tables) (p : Piece) (token : TextToken) : Type 0 where
  pub lower : List Held
  pub last : Held
  pub entries : p.stack ≡ lower ++ last ∷ []
  pub agrees_not : NoneLeft t token.id last.states ⊎ AreSeveral t token.id last.states

-- the piece is stuck under what follows it, where something does
abbrev pub IsStuckUnder : Tables → Piece → List TextToken → Type 0
IsStuckUnder t p [] = Unit {0}
IsStuckUnder t p (token ∷ later) = IsStuck t p token

-- what follows before a list of pieces that `next` follows: the first token of its first piece
abbrev pub first_or : List TextToken → List Piece → List TextToken
first_or next [] = next
first_or next (p ∷ ps) = p.first ∷ []

-- the pieces, one after the other and followed by `next`, one token or nothing, have these tokens and this walk
pub data ArePieces (t : Tables) (store : Store) (next : List TextToken) : List Piece → List TextToken → List Step → Type 0 where
  no_piece : ArePieces t store next [] [] []
  piece_first : {p : Piece} {ps : List Piece} {u v w : List TextToken} {first rest steps : List Step} → IsMade t store p u first → StandsFor t store p u (first_or next ps) → TakesRight t p → IsStuckUnder t p (first_or next ps) → ArePieces t store next ps v rest → w ≡ u ++ v → steps ≡ first ++ rest → ArePieces t store next (p ∷ ps) w steps

-- the nodes of the floors of all pieces, in their order
abbrev pub nodes_of_floors : List Piece → List Ref
nodes_of_floors [] = []
nodes_of_floors (p ∷ ps) = floor_nodes p.floors ++ nodes_of_floors ps

-- the pieces with their store are pieces of the token list
pub record ArePiecesOf (t : Tables) (store : Store) (ps : List Piece) (w : List TextToken) : Type 0 where
  pub steps : List Step
  pub pieces : ArePieces t store [] ps w steps
  pub each_once : IsDistinct store (nodes_of_floors ps) steps
