-- Laws of scanning: there is one longest match, one list of tokens, and at least one; tokens of lines one after another
-- are those of all of them; and where the lines begin.
use Rattle.std.specs.Prelude.{◌≡◌, ◌≢◌, ℕ, ◌<◌, List, [], ◌++◌, length, slice_get, Some, All}
use Rattle.std.specs.List.Sorted.{IsStrictlyIncreasing}
use Rattle.grammar_data.specs.declared.token.Token.{Token}
use Rattle.pattern_data.specs.declared.pattern.Pattern.{Pattern}
use Rattle.scanning_theory.specs.Lines.{line_starts}
use Rattle.scanning_theory.specs.Scan.{HasNoMatch, IsLongest, Scanning, AreTokensFrom, AreTokensOfLines, AreTokens}

-- two longest matches at one place are the same
abbrev pub OneLongestLaw : Type 0
OneLongestLaw = (patterns : List Pattern) (text : List ℕ) (at len rank other_len other : ℕ) → IsLongest patterns text at len rank → IsLongest patterns text at other_len other → (len ≡ other_len) × (rank ≡ other)

-- where there is a longest match, there is a match
abbrev pub LongestOrNoneLaw : Type 0
LongestOrNoneLaw = (patterns : List Pattern) (text : List ℕ) (at len rank : ℕ) → IsLongest patterns text at len rank → ¬ (HasNoMatch patterns text at)

-- a rest of a line has at most one list of tokens
abbrev pub OneListFromLaw : Type 0
OneListFromLaw = (scanning : Scanning) (text : List ℕ) (line at : ℕ) (tokens others : List Token) → AreTokensFrom scanning text line at tokens → AreTokensFrom scanning text line at others → tokens ≡ others

-- so have some lines
abbrev pub OneListOfLinesLaw : Type 0
OneListOfLinesLaw = (scanning : Scanning) (text : List ℕ) (to from : ℕ) (tokens others : List Token) → AreTokensOfLines scanning text to from tokens → AreTokensOfLines scanning text to from others → tokens ≡ others

-- and a text
abbrev pub OneListLaw : Type 0
OneListLaw = (scanning : Scanning) (text : List ℕ) (tokens others : List Token) → AreTokens scanning text tokens → AreTokens scanning text others → tokens ≡ others

-- tokens of some lines, and then those of the lines behind them, are the tokens of all these lines
abbrev pub CuttingLaw : Type 0
CuttingLaw = (scanning : Scanning) (text : List ℕ) (from middle to : ℕ) (tokens others : List Token) → AreTokensOfLines scanning text middle from tokens → AreTokensOfLines scanning text to middle others → AreTokensOfLines scanning text to from (tokens ++ others)

-- it is refuted that a text has no list of tokens, where each rank has a meaning
abbrev pub SomeListLaw : Type 0
SomeListLaw = (scanning : Scanning) (text : List ℕ) → length scanning.patterns ≡ length scanning.means → ((tokens : List Token) → ¬ (AreTokens scanning text tokens)) → ⊥

-- the lines begin at rising places
abbrev pub RisingStartsLaw : Type 0
RisingStartsLaw = (text : List ℕ) → IsStrictlyIncreasing (line_starts text)

-- each before the text's end
abbrev pub StartsInsideLaw : Type 0
StartsInsideLaw = (text : List ℕ) → All (λ at. at < length text) (line_starts text)

-- the first line at the first byte, where there is one
abbrev pub FirstStartLaw : Type 0
FirstStartLaw = (text : List ℕ) → text ≢ [] → slice_get (line_starts text) 0 ≡ Some 0
