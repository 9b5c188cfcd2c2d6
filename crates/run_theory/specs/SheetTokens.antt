-- The numbers of the tokens that a sheet's patterns find.
use Rattle.std.specs.Prelude.{◌≡◌, ◌≢◌, ℕ, ◌+◌, ◌≤◌, List, All, length}
use Rattle.grammar_data.specs.declared.token.Token.{Token as TextToken}
use Rattle.scanning_theory.specs.Scan.{AreTokens}
use Rattle.sheet_data.specs.Sheet.{Sheet}
use Rattle.sheet_theory.specs.Names.{declared_names}
use Rattle.sheet_theory.specs.ScanOrder.{scanning_of}
use Rattle.outline_theory.specs.Reading.{Reads}

-- the sheet's tokens are those that its declarations name, and the literals without a name
abbrev pub CountsTokens : Sheet → Type 0
CountsTokens sheet = sheet.grammar.tokens ≡ length (declared_names sheet.decls) + length sheet.literals

-- the token is one of the sheet's, or the bad byte, and so not the end mark
pub record IsTokenOf (sheet : Sheet) (token : TextToken) : Type 0 where
  pub below : token.id ≤ sheet.grammar.tokens + 1
  pub not_end : token.id ≢ sheet.grammar.tokens

-- bytes that are a sheet's count its tokens
abbrev pub CountedLaw : Type 0
CountedLaw = (bytes : List ℕ) (sheet : Sheet) → Reads bytes sheet → CountsTokens sheet

-- and the tokens of a text are its tokens and bad bytes
abbrev pub SheetTokensLaw : Type 0
SheetTokensLaw = (sheet : Sheet) → CountsTokens sheet → (text : List ℕ) (tokens : List TextToken) → AreTokens (scanning_of sheet) text tokens → All (IsTokenOf sheet) tokens
