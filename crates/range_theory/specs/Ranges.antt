-- The tokens of segments that stand one after another, by the bounds of a cutting.
use Rattle.std.specs.Prelude.{◌≡◌, ℕ, ◌+◌, List, [], ◌∷◌, slice_get, Some, flat_map}
use Rattle.grammar_data.specs.declared.token.Token.{Token as TextToken}
use Rattle.scanning_theory.specs.Scan.{Scanning, AreTokensOfLines}

-- these are the tokens of each segment from `first` up to `last`, by the bounds of a cutting
pub data AreTokensOfRange (scanning : Scanning) (text bounds : List ℕ) (last : ℕ) : ℕ → List (List TextToken) → Type 0 where
  no_segment : {first : ℕ} → first ≡ last → AreTokensOfRange scanning text bounds last first []
  first_segment : {first from to : ℕ} {tokens : List TextToken} {lists : List (List TextToken)} → slice_get bounds first ≡ Some from → slice_get bounds (first + 1) ≡ Some to → AreTokensOfLines scanning text to from tokens → AreTokensOfRange scanning text bounds last (first + 1) lists → AreTokensOfRange scanning text bounds last first (tokens ∷ lists)

-- lists one after another
abbrev pub all_of : List (List TextToken) → List TextToken
all_of lists = flat_map (λ list. list) lists
