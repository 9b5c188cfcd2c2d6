-- The bytes of a text that its tokens stand for.
use Rattle.std.specs.Prelude.{ℕ, ◌+◌, ◌≤◌, List, All, length, map, take, drop}
use Rattle.grammar_data.specs.declared.token.Token.{Token as TextToken}
use Rattle.scanning_theory.specs.Scan.{Scanning, AreTokens}

-- the bytes of a token
abbrev pub bytes_of : List ℕ → TextToken → List ℕ
bytes_of text token = take token.place.len (drop token.place.start text)

-- those of tokens, one after another
abbrev pub texts_of : List ℕ → List TextToken → List (List ℕ)
texts_of text tokens = map (bytes_of text) tokens

-- the token's bytes stand in the text
abbrev pub IsInText : List ℕ → TextToken → Type 0
IsInText text token = token.place.start + token.place.len ≤ length text

-- the bytes of these tokens do, and there are no more tokens than bytes
pub record AreInText (text : List ℕ) (tokens : List TextToken) : Type 0 where
  pub each : All (IsInText text) tokens
  pub few : length tokens ≤ length text

-- as of the tokens of the text, by whatever patterns it is scanned
abbrev pub InTextLaw : Type 0
InTextLaw = (scanning : Scanning) (text : List ℕ) (tokens : List TextToken) → AreTokens scanning text tokens → AreInText text tokens
