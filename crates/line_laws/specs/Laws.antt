-- Laws of the tokens of lines: where they stand among those of more lines. No test of the definitions decides what a pattern
-- matches; so that a text has tokens is had as that it is refuted that it has none.
use Rattle.std.specs.Prelude.{◌≡◌, ℕ, ◌≤◌, List, ◌++◌, length}
use Rattle.grammar_data.specs.declared.token.Token.{Token}
use Rattle.scanning_theory.specs.Lines.{line_starts}
use Rattle.scanning_theory.specs.Scan.{Scanning, AreTokens, AreTokensOfLines}

-- the tokens of the lines from one up to another are those before a line between them, and then those from it on
pub record AreSplit (scanning : Scanning) (text : List ℕ) (from middle to : ℕ) (tokens : List Token) : Type 0 where
  pub front : List Token
  pub back : List Token
  pub parts : tokens ≡ front ++ back
  pub first : AreTokensOfLines scanning text middle from front
  pub second : AreTokensOfLines scanning text to middle back

abbrev pub SplitLaw : Type 0
SplitLaw = (scanning : Scanning) (text : List ℕ) (from middle to : ℕ) (tokens : List Token) → from ≤ middle → middle ≤ to → AreTokensOfLines scanning text to from tokens → AreSplit scanning text from middle to tokens

-- the tokens stand among those of the whole text
pub record AreWithin (scanning : Scanning) (text : List ℕ) (tokens : List Token) : Type 0 where
  pub all : List Token
  pub front : List Token
  pub back : List Token
  pub are : AreTokens scanning text all
  pub parts : all ≡ front ++ (tokens ++ back)

-- it is refuted that those of some lines don't, where each pattern has a meaning
abbrev pub WithinLaw : Type 0
WithinLaw = (scanning : Scanning) → length scanning.patterns ≡ length scanning.means → (text : List ℕ) (from to : ℕ) (tokens : List Token) → from ≤ to → to ≤ length (line_starts text) → AreTokensOfLines scanning text to from tokens → ¬ (AreWithin scanning text tokens) → ⊥
