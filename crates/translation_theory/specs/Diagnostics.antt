-- The diagnostic of a text whose tokens are no sentence: the line of the first wrong token, what it is, and what could
-- stand there.
use Rattle.std.specs.Prelude.{◌≡◌, ℕ, max, List, [], ◌∷◌, ◌++◌, length, map, take, slice_get, Option, None, Some, codes}
use Rattle.std.specs.List.{flat_map}
use Rattle.std.specs.Fmt.{decimal}
use Rattle.grammar_data.specs.declared.rule.Sym.TheVariants.{Token}
use Rattle.grammar_data.specs.declared.token.Token.{Token as TextToken}
use Rattle.grammar_theory.specs.Trees.{ids_of}
use Rattle.next_theory.specs.GoingOn.{token_at, IsWrongAt, AreExpected}
use Rattle.scanning_theory.specs.Lines.{line_starts}
use Rattle.sheet_data.specs.Sheet.{Sheet}
use Rattle.outline_theory.specs.Layout.{symbol_text}

-- the printed name of a token, of the end mark or of the bad byte
abbrev pub name_of : Sheet → ℕ → List ℕ
name_of sheet a = symbol_text sheet (Token a)

-- the line of a token of the text; that of its end is its last line, or 1 where it has none
abbrev pub line_of : List ℕ → Option TextToken → ℕ
line_of text None = max 1 (length (line_starts text))
line_of text (Some token) = token.place.line

-- names with a comma and a space between
abbrev pub listed : List (List ℕ) → List ℕ
listed [] = []
listed (name ∷ names) = name ++ flat_map (λ other. codes ", " ++ other) names

-- what is said of a token on a line where these could stand
abbrev pub unexpected_text : Sheet → ℕ → ℕ → List ℕ → List ℕ
unexpected_text sheet line token expected =
    codes "line " ++ (decimal line ++ (codes ": unexpected " ++ (name_of sheet token ++ (codes "; expected " ++ (listed (map (name_of sheet) expected) ++ codes "\n")))))

-- this is said of the tokens of the text, which are no sentence: of what stands at the first wrong place, with the line
-- where it stands and with all tokens with which the ones before it go on, by their numbers, the end mark last
pub record IsDiagnostic (sheet : Sheet) (text : List ℕ) (tokens : List TextToken) (said : List ℕ) : Type 0 where
  pub index : ℕ
  pub wrong : IsWrongAt sheet.grammar (ids_of tokens) index
  pub expected : List ℕ
  pub are : AreExpected sheet.grammar (take index (ids_of tokens)) expected
  pub is : said ≡ unexpected_text sheet (line_of text (slice_get tokens index)) (token_at sheet.grammar (ids_of tokens) index) expected

-- a token list has one diagnostic at most
abbrev pub OneDiagnosticLaw : Type 0
OneDiagnosticLaw = (sheet : Sheet) (text : List ℕ) (tokens : List TextToken) (said other : List ℕ) → IsDiagnostic sheet text tokens said → IsDiagnostic sheet text tokens other → said ≡ other
