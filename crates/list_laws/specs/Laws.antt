-- The laws of lists of pieces.
use Rattle.std.specs.Prelude.{◌≡◌, List, [], ◌∷◌, ◌++◌}
use Rattle.grammar_data.specs.declared.token.Token.{Token as TextToken}
use Rattle.tree_theory.specs.Stores.{Store}
use Rattle.tree_theory.specs.Walks.{Step}
use Rattle.table_data.specs.Tables.{Tables}
use Rattle.piece_theory.specs.Pieces.{Piece}
use Rattle.piece_theory.specs.Applies.{StandsFor, TakesRight}
use Rattle.piece_theory.specs.WellMade.{IsMade}
use Rattle.piece_theory.specs.Lists.{IsStuckUnder, first_or, ArePieces, nodes_of_floors}
use Rattle.piece_theory.specs.Laws.{HasMore}

-- pieces followed by the first token of other pieces, and then these, are pieces
abbrev pub PiecesThenLaw : Type 0
PiecesThenLaw = (t : Tables) (store : Store) (next : List TextToken) (ps qs : List Piece) (u v : List TextToken) (first second : List Step) → ArePieces t store (first_or next qs) ps u first → ArePieces t store next qs v second → ArePieces t store next (ps ++ qs) (u ++ v) (first ++ second)

-- two parts of a list of pieces, the first followed by the first token of the second
pub record AreCutAt (t : Tables) (store : Store) (next : List TextToken) (ps qs : List Piece) (w : List TextToken) (steps : List Step) : Type 0 where
  pub u : List TextToken
  pub v : List TextToken
  pub first : List Step
  pub second : List Step
  pub before : ArePieces t store (first_or next qs) ps u first
  pub after : ArePieces t store next qs v second
  pub tokens : w ≡ u ++ v
  pub walk : steps ≡ first ++ second

-- and pieces are cut anywhere
abbrev pub PiecesSplitLaw : Type 0
PiecesSplitLaw = (t : Tables) (store : Store) (next : List TextToken) (ps qs : List Piece) (w : List TextToken) (steps : List Step) → ArePieces t store next (ps ++ qs) w steps → AreCutAt t store next ps qs w steps

-- one piece more at the end
abbrev pub PiecePushedLaw : Type 0
PiecePushedLaw = (t : Tables) (store : Store) (next : List TextToken) (ps : List Piece) (p : Piece) (u v : List TextToken) (front steps : List Step) → ArePieces t store (p.first ∷ []) ps u front → IsMade t store p v steps → StandsFor t store p v next → TakesRight t p → IsStuckUnder t p next → ArePieces t store next (ps ++ p ∷ []) (u ++ v) (front ++ steps)

-- in a store that has more nodes they are pieces
abbrev pub PiecesMoreLaw : Type 0
PiecesMoreLaw = (t : Tables) (store more : Store) (next : List TextToken) (ps : List Piece) (w : List TextToken) (steps : List Step) → HasMore store more → ArePieces t store next ps w steps → ArePieces t more next ps w steps

-- the nodes of floors of two lists
abbrev pub FloorsThenLaw : Type 0
FloorsThenLaw = (ps qs : List Piece) → nodes_of_floors (ps ++ qs) ≡ nodes_of_floors ps ++ nodes_of_floors qs
