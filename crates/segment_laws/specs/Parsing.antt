-- Where the parse of a segment stands: some pieces are closed, and one is open. The tokens of the closed pieces, then those
-- of the open one, then those that are left, are the segment's. The closed pieces, followed by the open one's first token,
-- are pieces of their tokens, each with the tokens of its part of the segment; each node of the store is used once by the
-- closed pieces and the open one. That the open piece is a leaf stands beside it.
-- Source: as of pieces.
use Rattle.std.specs.Prelude.{◌≡◌, List, [], ◌∷◌, ◌++◌}
use Rattle.grammar_data.specs.declared.token.Token.{Token as TextToken}
use Rattle.tree_theory.specs.Stores.{Store}
use Rattle.tree_theory.specs.Walks.{Step, WalksAll, tokens_in}
use Rattle.table_data.specs.Tables.{Tables}
use Rattle.piece_theory.specs.Pieces.{Piece, kids_of}
use Rattle.piece_theory.specs.Applies.{nowhere}
use Rattle.piece_theory.specs.Lists.{ArePieces, nodes_of_floors}
use Rattle.walk_laws.specs.Walked.{IsWalked}
use Rattle.leaf_laws.specs.Closing.{AreClosed}

-- the tokens of a piece are those of the walk over its entries
pub record HasYield (store : Store) (p : Piece) (tokens : List TextToken) : Type 0 where
  pub steps : List Step
  pub walk : WalksAll store nowhere 0 (kids_of p.stack) steps
  pub yields : tokens_in steps ≡ tokens

-- each piece has the tokens of the part in its place, and there are as many parts as pieces
pub data HaveParts (store : Store) : List Piece → List (List TextToken) → Type 0 where
  no_parts_left : HaveParts store [] []
  part_first : {p : Piece} {ps : List Piece} {part : List TextToken} {parts : List (List TextToken)} → HasYield store p part → HaveParts store ps parts → HaveParts store (p ∷ ps) (part ∷ parts)

-- `ps` are closed, `p` is open and has the tokens `w`, and `rest` is left of the segment's tokens
pub record IsParsing (t : Tables) (store : Store) (tokens : List TextToken) (ps : List Piece) (p : Piece) (w rest : List TextToken) : Type 0 where
  pub before : List TextToken
  pub front : List Step
  pub closed : ArePieces t store (p.first ∷ []) ps before front
  pub walked : IsWalked store (nodes_of_floors ps) front p w
  pub parts : tokens ≡ before ++ (w ++ rest)
  pub closed_parts : List (List TextToken)
  pub are_parts : AreClosed t tokens closed_parts (w ++ rest)
  pub have : HaveParts store ps closed_parts
