-- Exact maps over entries: there is one list of them for kids and the states below.
-- Source: as of pieces.
use Rattle.std.specs.Prelude.{◌≡◌, ℕ, List, Option}
use Rattle.grammar_data.specs.declared.token.Token.{Token as TextToken}
use Rattle.tree_theory.specs.Stores.{Store}
use Rattle.tree_theory.specs.Walks.{Step}
use Rattle.table_data.specs.Tables.{Tables}
use Rattle.piece_theory.specs.Pieces.{Held, Piece, kids_of}
use Rattle.piece_theory.specs.WellMade.{AreSteps, IsMade}

-- entries with the same kids that take the same states on are the same
abbrev pub OneStackLaw : Type 0
OneStackLaw = (t : Tables) (store : Store) (from : ℕ → Option ℕ) (hs gs : List Held) → AreSteps t store from hs → AreSteps t store from gs → kids_of hs ≡ kids_of gs → hs ≡ gs

-- well made pieces that have the same first token, count, floors and kids are the same
abbrev pub OnePieceLaw : Type 0
OnePieceLaw = (t : Tables) (store : Store) (p q : Piece) (w other : List TextToken) (steps more : List Step) → IsMade t store p w steps → IsMade t store q other more → p.first ≡ q.first → p.count ≡ q.count → p.floors ≡ q.floors → kids_of p.stack ≡ kids_of q.stack → p ≡ q
