-- The tokens of a text, by the patterns of a sheet in order of rank (longest match, ties to the least rank).
use Rattle.std.specs.Prelude.{◌≡◌, ℕ, ◌+◌, ◌<◌, ◌≤◌, List, [], ◌∷◌, ◌++◌, length, take, drop, slice_get, Some, Bool, true, false, count_by}
use Rattle.grammar_data.specs.declared.token.Token.{Token}
use Rattle.pattern_data.specs.declared.pattern.Pattern.{Pattern}
use Rattle.pattern_data.specs.declared.pattern.Meaning.{Meaning}
use Rattle.pattern_data.specs.declared.pattern.Meaning.TheVariants.{Token as token_meaning, Skip as skip_meaning}
use Rattle.pattern_data.specs.Language.{Matches}
use Rattle.scanning_theory.specs.Lines.{IsLineEnd, line_starts}

-- the pattern of this rank has, at this place of the text, a string of this length
pub record IsMatch (patterns : List Pattern) (text : List ℕ) (at len rank : ℕ) : Type 0 where
  pub pattern : Pattern
  pub ranked : slice_get patterns rank ≡ Some pattern
  pub some : 0 < len
  pub inside : at + len ≤ length text
  pub matched : Matches pattern (take len (drop at text))

-- no pattern has a string there that isn't empty
abbrev pub HasNoMatch : List Pattern → List ℕ → ℕ → Type 0
HasNoMatch patterns text at = (len rank : ℕ) → IsMatch patterns text at len rank → ⊥

-- the longest string of any pattern, and the least rank whose pattern has it
pub record IsLongest (patterns : List Pattern) (text : List ℕ) (at len rank : ℕ) : Type 0 where
  pub matches : IsMatch patterns text at len rank
  pub longest : (other_len other : ℕ) → IsMatch patterns text at other_len other → other_len ≤ len
  pub least : (other : ℕ) → IsMatch patterns text at len other → rank ≤ other

-- what a sheet says to a scan: its patterns in order of rank, what each means, and its number of tokens
pub record Scanning : Type 0 where
  pub patterns : List Pattern
  pub means : List Meaning
  pub tokens : ℕ

-- a meaning that is a token, and no skip
abbrev pub is_token : Meaning → Bool
is_token (token_meaning id) = true
is_token skip_meaning = false

-- the number of tokens among the meanings
abbrev pub token_count : List Meaning → ℕ
token_count means = count_by is_token means

-- the token of a byte that no pattern begins
abbrev pub bad_byte : Scanning → ℕ
bad_byte scanning = scanning.tokens + 1

-- a token of this number, in this line (counted from 1), at this place of the text
abbrev pub token_at : ℕ → ℕ → ℕ → ℕ → Token
token_at id line start len = record { id = id; place = record { line = line; start = start; len = len } }

-- the tokens from a place of a line (counted from 1) up to the line's end
pub data AreTokensFrom (scanning : Scanning) (text : List ℕ) (line : ℕ) : ℕ → List Token → Type 0 where
  at_end : {at : ℕ} → IsLineEnd text at → AreTokensFrom scanning text line at []
  takes_token : {at rank id : ℕ} {rest all : List Token} (len : ℕ) → ¬ (IsLineEnd text at) → IsLongest scanning.patterns text at len rank → slice_get scanning.means rank ≡ Some (token_meaning id) → AreTokensFrom scanning text line (at + len) rest → all ≡ token_at id line at len ∷ rest → AreTokensFrom scanning text line at all
  skips : {at rank : ℕ} {rest : List Token} (len : ℕ) → ¬ (IsLineEnd text at) → IsLongest scanning.patterns text at len rank → slice_get scanning.means rank ≡ Some skip_meaning → AreTokensFrom scanning text line (at + len) rest → AreTokensFrom scanning text line at rest
  takes_bad_byte : {at : ℕ} {rest all : List Token} → ¬ (IsLineEnd text at) → HasNoMatch scanning.patterns text at → AreTokensFrom scanning text line (at + 1) rest → all ≡ token_at (bad_byte scanning) line at 1 ∷ rest → AreTokensFrom scanning text line at all

-- the tokens of the lines from line `from` up to line `to`, counted from 0
pub data AreTokensOfLines (scanning : Scanning) (text : List ℕ) (to : ℕ) : ℕ → List Token → Type 0 where
  no_line : {from : ℕ} → from ≡ to → AreTokensOfLines scanning text to from []
  first_line : {from at : ℕ} {here rest all : List Token} → from < to → slice_get (line_starts text) from ≡ Some at → AreTokensFrom scanning text (from + 1) at here → AreTokensOfLines scanning text to (from + 1) rest → all ≡ here ++ rest → AreTokensOfLines scanning text to from all

-- the tokens of a text
abbrev pub AreTokens : Scanning → List ℕ → List Token → Type 0
AreTokens scanning text tokens = AreTokensOfLines scanning text (length (line_starts text)) 0 tokens
