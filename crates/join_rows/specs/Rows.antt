-- Pieces of tokens that are joined, and parses that are walked over.
use Rattle.std.specs.Prelude.{ℕ, ◌-◌, ◌<◌, ◌≤◌, ◌^◌, List, All}
use Rattle.grammar_data.specs.declared.token.Token.{Token}
use Rattle.table_data.specs.Tables.{Tables}
use Rattle.bare_theory.specs.Bare.{AreBarePiecesOf}
use Rattle.node_store.specs.Chunks.{HasChunk, store_of}
use Rattle.node_store.specs.Walking.{IsFinished}
use Rattle.piece_lists.specs.Lists.{Stored}
use Rattle.plain_parse.specs.declared.parsed.Parsed.{Parsed}
use Rattle.plain_parse.specs.declared.parsed.Parsed.TheVariants.{Tree, Wrong}

-- the tokens have numbers that fit a kid
abbrev pub AreNumbered : List Token → Type 0
AreNumbered tokens = All (λ (token : Token). token.id < 2 ^ 32 - 2) tokens

-- pieces of the tokens, with chunks whose numbers go from one to below another
pub record HasPieces (t : Tables) (pieces : Stored) (tokens : List Token) (from next : ℕ) : Type 0 where
  pub are : AreBarePiecesOf t (store_of pieces.store) pieces.closed tokens
  pub numbers : (n : ℕ) → HasChunk pieces.store n → (from ≤ n) × (n < next)

-- what a parse gives can be walked over
abbrev pub IsWalkable : Parsed → Type 0
IsWalkable (Tree root store) = IsFinished store root
IsWalkable (Wrong index token state) = Unit {0}
