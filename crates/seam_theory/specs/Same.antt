-- What a piece owns. Where the nodes that the walk over pieces enters stay as they are, these are pieces in the other store
-- too: other pieces may change.
use Rattle.std.specs.Prelude.{List}
use Rattle.grammar_data.specs.declared.token.Token.{Token as TextToken}
use Rattle.tree_theory.specs.Stores.{Store}
use Rattle.tree_theory.specs.Walks.{Step}
use Rattle.table_data.specs.Tables.{Tables}
use Rattle.use_theory.specs.Kept.{IsSame}
use Rattle.piece_theory.specs.Pieces.{Piece}
use Rattle.piece_theory.specs.Applies.{StandsFor}
use Rattle.piece_theory.specs.WellMade.{IsMade}
use Rattle.piece_theory.specs.Lists.{ArePieces}

-- a piece is as well made
abbrev pub MadeSameLaw : Type 0
MadeSameLaw = (t : Tables) (store new : Store) (p : Piece) (w : List TextToken) (steps : List Step) → IsSame store new steps → IsMade t store p w steps → IsMade t new p w steps

-- and stands for the same
abbrev pub StandsSameLaw : Type 0
StandsSameLaw = (t : Tables) (store new : Store) (p : Piece) (w next : List TextToken) (steps : List Step) → IsSame store new steps → IsMade t store p w steps → StandsFor t store p w next → StandsFor t new p w next

-- so a list of pieces is one
abbrev pub PiecesSameLaw : Type 0
PiecesSameLaw = (t : Tables) (store new : Store) (next : List TextToken) (ps : List Piece) (w : List TextToken) (steps : List Step) → IsSame store new steps → ArePieces t store next ps w steps → ArePieces t new next ps w steps
