-- What contracts see of pieces that are closed. The maps of a closed piece's entries follow from the alive starts of its last
-- floor and from the entries' symbols, so they aren't kept: a closed piece is its first token, the number of its tokens, its
-- floors, and the kids of its entries. Such pieces are pieces of a token list where some maps make them so.
-- Source: as of pieces.
use Rattle.std.specs.Prelude.{◌≡◌, ℕ, List, [], ◌∷◌}
use Rattle.grammar_data.specs.declared.token.Token.{Token as TextToken}
use Rattle.node_data.specs.declared.kid.Kid.{Kid}
use Rattle.tree_theory.specs.Stores.{Store}
use Rattle.table_data.specs.Tables.{Tables}
use Rattle.piece_theory.specs.Pieces.{Floor, Piece, kids_of}
use Rattle.piece_theory.specs.Lists.{ArePiecesOf}

-- a closed piece
pub record Bare : Type 0 where
  pub first : TextToken
  pub count : ℕ
  pub floors : List Floor
  pub kids : List Kid

-- a piece without its maps
abbrev pub bare : Piece → Bare
bare p = record { first = p.first; count = p.count; floors = p.floors; kids = kids_of p.stack }

-- pieces without their maps
abbrev pub bares : List Piece → List Bare
bares [] = []
bares (p ∷ ps) = bare p ∷ bares ps

-- with some maps they are pieces of the token list
pub record AreBarePiecesOf (t : Tables) (store : Store) (closed : List Bare) (w : List TextToken) : Type 0 where
  pub pieces : List Piece
  pub same : closed ≡ bares pieces
  pub are : ArePiecesOf t store pieces w
