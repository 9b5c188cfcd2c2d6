-- The maps of closed pieces follow from the rest.
use Rattle.std.specs.Prelude.{◌≡◌, List}
use Rattle.grammar_data.specs.declared.token.Token.{Token as TextToken}
use Rattle.tree_theory.specs.Stores.{Store}
use Rattle.table_data.specs.Tables.{Tables}
use Rattle.piece_theory.specs.Pieces.{Piece}
use Rattle.piece_theory.specs.Lists.{ArePiecesOf}
use Rattle.bare_theory.specs.Bare.{bares}

-- pieces of token lists that are the same without their maps are the same
abbrev pub OneMapsLaw : Type 0
OneMapsLaw = (t : Tables) (store : Store) (ps qs : List Piece) (w other : List TextToken) → ArePiecesOf t store ps w → ArePiecesOf t store qs other → bares ps ≡ bares qs → ps ≡ qs
