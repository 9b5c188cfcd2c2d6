-- The walk over the entries of a piece as it grows: the piece's tokens, and the nodes of its floors, which stand before all
-- tokens. Beside it stand what other pieces of the same store have: the nodes of their floors, and the walk over their
-- entries, in front of this one's; each node of the store is used once by all of them.
-- Source: as of pieces.
use Rattle.std.specs.Prelude.{◌≡◌, ◌≢◌, ℕ, List, ◌∷◌, ◌++◌, reverse, length, All, Some, None}
use Rattle.grammar_data.specs.declared.token.Token.{Token as TextToken}
use Rattle.node_data.specs.declared.kid.Kid.{Kid}
use Rattle.node_data.specs.declared.kid.Kid.TheVariants.{Hidden}
use Rattle.tree_theory.specs.Stores.{Ref, Store}
use Rattle.tree_theory.specs.Walks.{Step, WalksAll, tokens_in}
use Rattle.use_theory.specs.Spines.{IsSpine}
use Rattle.use_theory.specs.Distinct.{IsDistinct}
use Rattle.piece_theory.specs.Pieces.{Opened, Piece, openings, floor_nodes, kids_of}
use Rattle.piece_theory.specs.Applies.{nowhere}
use Rattle.piece_theory.specs.WellMade.{HasHidden}

-- the piece has these tokens, and this is the walk over its entries
pub record HasWalk (store : Store) (p : Piece) (tokens : List TextToken) (steps : List Step) : Type 0 where
  pub walk : WalksAll store nowhere 0 (kids_of p.stack) steps
  pub yields : tokens_in steps ≡ tokens
  pub later : List TextToken
  pub begins : tokens ≡ p.first ∷ later
  pub counted : length tokens ≡ p.count
  pub shown : All {X = Kid} (λ kid. kid ≢ Hidden) (kids_of p.stack)
  pub nodes : All {X = Opened} (HasHidden store) (openings p.floors)
  pub spine : IsSpine (reverse (floor_nodes p.floors)) steps

-- the same, with each node used once by what stands in front and by this piece
pub record IsWalked (store : Store) (nodes : List Ref) (front : List Step) (p : Piece) (tokens : List TextToken) : Type 0 where
  pub steps : List Step
  pub has : HasWalk store p tokens steps
  pub each_once : IsDistinct store (nodes ++ floor_nodes p.floors) (front ++ steps)

-- a store has one node more than another
pub record AddsNode (store new : Store) (m : Ref) (r : ℕ) (kids : List Kid) : Type 0 where
  pub fresh : store m ≡ None
  pub found : new m ≡ Some (r, kids)
  pub others : (n : Ref) → n ≢ m → new n ≡ store n
