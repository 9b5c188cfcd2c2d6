-- The order in which a sheet's patterns are scanned: all literals by the number of their token, then the declared
-- patterns, skips among them, in the order of their declarations.
use Rattle.std.specs.Prelude.{ℕ, ◌+◌, List, [], ◌∷◌, ◌++◌, map, length}
use Rattle.pattern_data.specs.declared.pattern.Pattern.{Pattern}
use Rattle.pattern_data.specs.declared.pattern.Meaning.{Meaning}
use Rattle.pattern_data.specs.declared.pattern.Meaning.TheVariants.{Token as token_meaning, Skip as skip_meaning}
use Rattle.pattern_data.specs.Language.{literal_pattern}
use Rattle.scanning_theory.specs.Scan.{Scanning}
use Rattle.sheet_data.specs.Sheet.{Sheet}
use Rattle.sheet_data.specs.declared.parts.Decl.{Decl}
use Rattle.sheet_data.specs.declared.parts.Decl.TheVariants.{Literal, Matched, Skip}
use Rattle.sheet_theory.specs.Names.{declared_names}

-- a pattern, and what its string is
abbrev pub Ranked : Type 0
Ranked = Pattern × Meaning

abbrev pub ranked_literal : ℕ → List ℕ → Ranked
ranked_literal token bytes = (literal_pattern bytes, token_meaning token)

-- the declared literals, where the next declared token has this number
abbrev pub declared_literals : ℕ → List Decl → List Ranked
declared_literals token [] = []
declared_literals token (Literal name bytes ∷ decls) = ranked_literal token bytes ∷ declared_literals (token + 1) decls
declared_literals token (Matched name pattern ∷ decls) = declared_literals (token + 1) decls
declared_literals token (Skip pattern ∷ decls) = declared_literals token decls

-- the literals without a name, the first of which is the token of this number
abbrev pub unnamed_literals : ℕ → List (List ℕ) → List Ranked
unnamed_literals token [] = []
unnamed_literals token (bytes ∷ literals) = ranked_literal token bytes ∷ unnamed_literals (token + 1) literals

-- the declared patterns, where the next declared token has this number
abbrev pub declared_patterns : ℕ → List Decl → List Ranked
declared_patterns token [] = []
declared_patterns token (Literal name bytes ∷ decls) = declared_patterns (token + 1) decls
declared_patterns token (Matched name pattern ∷ decls) = (pattern, token_meaning token) ∷ declared_patterns (token + 1) decls
declared_patterns token (Skip pattern ∷ decls) = (pattern, skip_meaning) ∷ declared_patterns token decls

-- a sheet's patterns in order of rank, each with its meaning
unfoldable pub scan_order : Sheet → List Ranked
scan_order sheet =
    declared_literals 0 sheet.decls ++ (unnamed_literals (length (declared_names sheet.decls)) sheet.literals ++ declared_patterns 0 sheet.decls)

-- what a sheet says to a scan
abbrev pub scanning_of : Sheet → Scanning
scanning_of sheet = record {
  patterns = map (λ (r : Ranked). r.0) (scan_order sheet);
  means = map (λ (r : Ranked). r.1) (scan_order sheet);
  tokens = sheet.grammar.tokens;
}
