-- The normal layout of a sheet.
use Rattle.std.specs.Prelude.{ℕ, List, [], ◌∷◌, ◌++◌, map, slice_get, unwrap_or, codes}
use Rattle.std.specs.List.{flat_map}
use Rattle.std.specs.Fmt.{decimal}
use Rattle.grammar_data.specs.Grammar.{Rule}
use Rattle.grammar_data.specs.declared.rule.Sym.{Sym}
use Rattle.grammar_data.specs.declared.rule.Sym.TheVariants.{Token, Name}
use Rattle.pattern_data.specs.declared.pattern.Pattern.{Pattern}
use Rattle.pattern_data.specs.Printing.{normal_spelling}
use Rattle.sheet_data.specs.Sheet.{Sheet}
use Rattle.sheet_data.specs.declared.parts.Decl.{Decl}
use Rattle.sheet_data.specs.declared.parts.Decl.TheVariants.{Literal, Matched, Skip}
use Rattle.sheet_data.specs.declared.parts.Part.{Part}
use Rattle.sheet_data.specs.declared.parts.Part.TheVariants.{Text, Fold, Number}
use Rattle.sheet_theory.specs.Names.{quote, double_quote, escaped, token_names}

-- a line: its words with one space between, and a line feed
abbrev pub line_text : List (List ℕ) → List ℕ
line_text [] = []
line_text (word ∷ []) = word ++ 10 ∷ []
line_text (word ∷ next ∷ words) = word ++ 32 ∷ line_text (next ∷ words)

-- the printed name of a symbol
abbrev pub symbol_text : Sheet → Sym → List ℕ
symbol_text sheet (Token a) = unwrap_or (slice_get (token_names sheet) a) []
symbol_text sheet (Name n) = unwrap_or (slice_get sheet.names n) []

abbrev pub part_text : Part → List ℕ
part_text (Text bytes) = escaped double_quote bytes
part_text (Fold place) = 36 ∷ decimal place
part_text (Number place) = 35 ∷ decimal place

abbrev pub mark_words : ℕ → List (List ℕ)
mark_words place = codes "%declares" ∷ decimal place ∷ []

-- the words of a rule's line
abbrev pub rule_words : Sheet → Rule → List Part → List ℕ → List (List ℕ)
rule_words sheet rule template declares =
    symbol_text sheet (Name rule.0) ∷ codes ":" ∷ (map (symbol_text sheet) rule.1 ++ (codes "{" ∷ (map part_text template ++ (codes "}" ∷ (flat_map mark_words declares ++ codes ";" ∷ [])))))

-- a line for each rule, with its template and its marks
abbrev pub rule_lines : Sheet → List Rule → List (List Part) → List (List ℕ) → List (List (List ℕ))
rule_lines sheet [] templates declares = []
rule_lines sheet (rule ∷ rules) [] declares = []
rule_lines sheet (rule ∷ rules) (template ∷ templates) [] = []
rule_lines sheet (rule ∷ rules) (template ∷ templates) (marks ∷ declares) = rule_words sheet rule template marks ∷ rule_lines sheet rules templates declares

abbrev pub slash : ℕ
slash = 47

-- a pattern's normal spelling between slashes
abbrev pub pattern_text : Pattern → List ℕ
pattern_text pattern = slash ∷ (normal_spelling pattern ++ slash ∷ [])

-- a line for each declaration
abbrev pub decl_words : Decl → List (List ℕ)
decl_words (Literal name bytes) = codes "%token" ∷ name ∷ escaped quote bytes ∷ []
decl_words (Matched name pattern) = codes "%token" ∷ name ∷ pattern_text pattern ∷ []
decl_words (Skip pattern) = codes "%skip" ∷ pattern_text pattern ∷ []

-- the declarations, the start, the mark, and the rules
abbrev pub layout_lines : Sheet → List (List (List ℕ))
layout_lines sheet =
    map decl_words sheet.decls ++ ((codes "%start" ∷ symbol_text sheet (Name sheet.grammar.start) ∷ []) ∷ (codes "%%" ∷ []) ∷ rule_lines sheet sheet.grammar.rules sheet.templates sheet.declares)

unfoldable pub layout : Sheet → List ℕ
layout sheet = flat_map line_text (layout_lines sheet)
