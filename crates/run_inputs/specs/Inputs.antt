-- What a parse in segments takes, as it was read: a language, and a text of it with its lines and tokens.
use Rattle.std.specs.Prelude.{◌≡◌, ℕ, ◌-◌, ◌^◌, ◌<◌, ◌≤◌, List, All, length}
use Rattle.lr_base.specs.declared.limits.TheConstants.{TEXT_BYTES}
use Rattle.grammar_data.specs.declared.token.Token.{Token as TextToken}
use Rattle.pattern_data.specs.declared.pattern.Pattern.{Pattern}
use Rattle.scanning_theory.specs.declared.limits.TheConstants.{PATTERNS}
use Rattle.scanning_theory.specs.Lines.{line_starts}
use Rattle.scanning_theory.specs.Scan.{AreTokens}
use Rattle.token_patterns.specs.Scanner.{IsScannerOf, ranks_of}
use Rattle.line_lexer.specs.Means.{scanning_of}
use Rattle.grammar_checks.specs.Building.{IsBuilt}
use Rattle.plain_parse.specs.Parses.{AreTextTokens}
use Rattle.run_inputs.specs.declared.language.Language.{Language}
use Rattle.run_inputs.specs.declared.source.Source.{Source}

-- the tables are those of the sheet's grammar, and the scanner is that of some patterns, each of which has a meaning
pub record IsLanguage (language : Language) : Type 0 where
  pub built : IsBuilt language.sheet.grammar language.built
  pub patterns : List Pattern
  pub scanner : IsScannerOf language.scanner patterns
  pub ranks : ranks_of language.scanner ≡ length language.means.items
  pub few : length language.means.items ≤ PATTERNS

-- the tokens of a text by the language's patterns
abbrev pub HasTokens : Language → List ℕ → List TextToken → Type 0
HasTokens language text tokens = (patterns : List Pattern) → IsScannerOf language.scanner patterns → AreTokens (scanning_of patterns language.means.items) text tokens

-- a text that is not too long, with its lines and tokens, which are of the language, or bad bytes
pub record IsSource (language : Language) (source : Source) : Type 0 where
  pub short : length source.text.items ≤ TEXT_BYTES
  pub lines : source.lines ≡ line_starts source.text.items
  pub tokens : HasTokens language source.text.items source.tokens.items
  pub of_tables : AreTextTokens language.built.tables source.tokens.items
  pub small : All (λ (token : TextToken). token.id < 2 ^ 32 - 2) source.tokens.items
  pub few : length source.tokens.items ≤ TEXT_BYTES
