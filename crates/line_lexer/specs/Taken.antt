-- What a scan takes at one place of a line, and what it appends on the way from one place to another.
use Rattle.std.specs.Prelude.{◌≡◌, ℕ, List, ◌++◌, slice_get, Some, ◌⊎◌}
use Rattle.grammar_data.specs.declared.token.Token.{Token}
use Rattle.pattern_data.specs.declared.pattern.Meaning.{Meaning}
use Rattle.pattern_data.specs.declared.pattern.Meaning.TheVariants.{Token as token_meaning, Skip as skip_meaning}
use Rattle.scanning_theory.specs.Scan.{HasNoMatch, IsLongest, Scanning, bad_byte, AreTokensFrom}
use Rattle.line_lexer.specs.declared.taken.Taken.{Taken}
use Rattle.line_lexer.specs.declared.taken.Taken.TheVariants.{Token as taken_token, Skip as taken_skip}

-- a longest match of this length, whose rank has this meaning
abbrev pub IsLongestOf : Scanning → List ℕ → ℕ → ℕ → Meaning → Type 0
IsLongestOf scanning text at len meaning = (rank : ℕ) × IsLongest scanning.patterns text at len rank × (slice_get scanning.means rank ≡ Some meaning)

-- the bad byte
abbrev pub IsBadByte : Scanning → List ℕ → ℕ → ℕ → ℕ → Type 0
IsBadByte scanning text at id len = HasNoMatch scanning.patterns text at × (id ≡ bad_byte scanning) × (len ≡ 1)

-- a scan takes this
abbrev pub IsTaken : Scanning → List ℕ → ℕ → Taken → Type 0
IsTaken scanning text at (taken_token id len) = IsLongestOf scanning text at len (token_meaning id) ⊎ IsBadByte scanning text at id len
IsTaken scanning text at (taken_skip len) = IsLongestOf scanning text at len skip_meaning

-- how many bytes that are
abbrev pub len_of : Taken → ℕ
len_of (taken_token id len) = len
len_of (taken_skip len) = len

-- the tokens grew by those that stand from one place of a line up to another
pub record AppendsTokens (scanning : Scanning) (text : List ℕ) (line at next : ℕ) (old new : List Token) : Type 0 where
  pub more : List Token
  pub grown : new ≡ old ++ more
  pub tokens : (rest : List Token) → AreTokensFrom scanning text line next rest → AreTokensFrom scanning text line at (more ++ rest)
