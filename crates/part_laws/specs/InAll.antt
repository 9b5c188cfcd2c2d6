-- The parts of several token lists, counted together.
use Rattle.std.specs.Prelude.{◌≡◌, ℕ, ◌+◌, List, [], ◌∷◌}
use Rattle.grammar_data.specs.declared.token.Token.{Token as TextToken}
use Rattle.table_data.specs.Tables.{Tables}
use Rattle.part_theory.specs.Parts.{HasParts}

-- these token lists have so many parts in all
pub data HavePartsInAll (t : Tables) : List (List TextToken) → ℕ → Type 0 where
  no_list : HavePartsInAll t [] 0
  list_first : {tokens : List TextToken} {lists : List (List TextToken)} {count rest all : ℕ} → HasParts t tokens count → HavePartsInAll t lists rest → all ≡ count + rest → HavePartsInAll t (tokens ∷ lists) all
