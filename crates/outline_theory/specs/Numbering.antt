-- The sheet that an outline without faults says: its numbers, templates and marks.
use Rattle.std.specs.Prelude.{◌≡◌, ℕ, ◌+◌, Bool, not, if◌then◌else◌, List, [], ◌∷◌, ◌++◌, length, map, filter, Option, None, Some}
use Rattle.std.specs.List.{flat_map, list_any, range_with_len}
use Rattle.std.specs.Str.{bytes_eq}
use Rattle.grammar_data.specs.Grammar.{Rule}
use Rattle.grammar_data.specs.declared.rule.Sym.{Sym}
use Rattle.grammar_data.specs.declared.rule.Sym.TheVariants.{Token as token_symbol, Name as name_symbol}
use Rattle.pattern_data.specs.declared.pattern.Pattern.{Pattern}
use Rattle.pattern_data.specs.Spellings.{IsSpelling}
use Rattle.sheet_data.specs.Sheet.{Sheet}
use Rattle.sheet_data.specs.declared.parts.Decl.{Decl}
use Rattle.sheet_data.specs.declared.parts.Decl.TheVariants.{Literal as literal_decl, Matched as matched_decl, Skip as skip_decl}
use Rattle.sheet_data.specs.declared.parts.Part.{Part}
use Rattle.sheet_data.specs.declared.parts.Part.TheVariants.{Text as text_of, Fold as fold_of, Number as number_of}
use Rattle.outline_data.specs.declared.outline.Word.{Word}
use Rattle.outline_data.specs.declared.outline.Declaration.{Declaration}
use Rattle.outline_data.specs.declared.outline.Declaration.TheVariants.{Literal, Matched, Skip, Start}
use Rattle.outline_data.specs.declared.rules.Symbol.{Symbol}
use Rattle.outline_data.specs.declared.rules.Symbol.TheVariants.{Name, Quoted}
use Rattle.outline_data.specs.declared.rules.TemplatePart.{TemplatePart}
use Rattle.outline_data.specs.declared.rules.TemplatePart.TheVariants.{Text, Fold, Number}
use Rattle.outline_data.specs.AlternativeParts.{AlternativeParts}
use Rattle.outline_data.specs.GroupParts.{GroupParts}
use Rattle.outline_data.specs.Parts.{OutlineParts}
use Rattle.outline_theory.specs.Words.{texts, token_words, literal_words, StartUse, starts, left_words, alternatives_of, side_literals, places}

-- the word is one of the list
abbrev pub is_one_of : List (List ℕ) → List ℕ → Bool
is_one_of words word = list_any (λ other. bytes_eq other word) words

-- the words without those that stand earlier, too
abbrev pub distinct : List (List ℕ) → List (List ℕ)
distinct [] = []
distinct (word ∷ words) = word ∷ filter (λ other. not (bytes_eq word other)) (distinct words)

-- the place of a word that is one of the list: that of the first such word
abbrev pub index_of : List (List ℕ) → List ℕ → ℕ
index_of [] word = 0
index_of (other ∷ words) word = if bytes_eq other word then 0 else index_of words word + 1

-- the literals without a name, in the order of their first used
unfoldable pub unnamed_literals : OutlineParts → List (List ℕ)
unnamed_literals o = distinct (filter (λ word. not (is_one_of (texts (literal_words o)) word)) (texts (side_literals o)))

-- the bytes of each token's literal, by the token's number; none for a token that has a pattern
abbrev pub literal_of_token : Declaration → List (List ℕ)
literal_of_token (Literal name literal) = literal.bytes ∷ []
literal_of_token (Matched name pattern) = [] ∷ []
literal_of_token (Skip pattern) = []
literal_of_token (Start line name) = []

abbrev pub token_literals : OutlineParts → List (List ℕ)
token_literals o = flat_map literal_of_token o.declarations ++ unnamed_literals o

-- the names of the grammar, in the order of their first rules
unfoldable pub grammar_names : OutlineParts → List (List ℕ)
grammar_names o = distinct (texts (left_words o))

-- the words that have numbers: the names of the declared tokens and the literals by the tokens' numbers, and the names
pub record WordLists : Type 0 where
  pub tokens : List (List ℕ)
  pub literals : List (List ℕ)
  pub names : List (List ℕ)

abbrev pub lists_of : OutlineParts → WordLists
lists_of o = record { tokens = texts (token_words o); literals = token_literals o; names = grammar_names o }

-- a name is that of a token, or one of the grammar; a literal is the token with these bytes
abbrev pub symbol_by : WordLists → Symbol → Sym
symbol_by lists (Name word) =
    if is_one_of lists.tokens word.bytes then token_symbol (index_of lists.tokens word.bytes)
    else name_symbol (index_of lists.names word.bytes)
symbol_by lists (Quoted word) = token_symbol (index_of lists.literals word.bytes)

-- one rule for each alternative
abbrev pub rule_by : WordLists → ℕ → AlternativeParts → Rule
rule_by lists left a = (left, map (symbol_by lists) a.right)

abbrev pub rules_by : WordLists → GroupParts → List Rule
rules_by lists g = map (rule_by lists (index_of lists.names g.left.bytes)) g.alternatives

abbrev pub rules_of : OutlineParts → List Rule
rules_of o = flat_map (rules_by (lists_of o)) o.groups

-- the start: the declared one, or the left side of the first rule
abbrev pub start_by : List (List ℕ) → List StartUse → ℕ
start_by names [] = 0
start_by names (start ∷ more) = index_of names start.name.bytes

abbrev pub part_of : TemplatePart → Part
part_of (Text bytes) = text_of bytes
part_of (Fold used) = fold_of used.place
part_of (Number used) = number_of used.place

-- a template as written, or that of all parts in order
abbrev pub template_by : Option (List TemplatePart) → ℕ → List Part
template_by None count = map fold_of (range_with_len 1 count)
template_by (Some parts) count = map part_of parts

abbrev pub template_of : AlternativeParts → List Part
template_of a = template_by a.template (length a.right)

abbrev pub declares_of : AlternativeParts → List ℕ
declares_of a = places a.marks

-- the declarations that a sheet keeps: all but those of the start; a pattern is the one that its text spells
pub data AreDecls : List Declaration → List Decl → Type 0 where
  no_decl : AreDecls [] []
  literal_first : {name literal : Word} {declarations : List Declaration} {decls all : List Decl} → AreDecls declarations decls → all ≡ literal_decl name.bytes literal.bytes ∷ decls → AreDecls (Literal name literal ∷ declarations) all
  matched_first : {name word : Word} {pattern : Pattern} {declarations : List Declaration} {decls all : List Decl} → IsSpelling word.bytes pattern → AreDecls declarations decls → all ≡ matched_decl name.bytes pattern ∷ decls → AreDecls (Matched name word ∷ declarations) all
  skip_first : {word : Word} {pattern : Pattern} {declarations : List Declaration} {decls all : List Decl} → IsSpelling word.bytes pattern → AreDecls declarations decls → all ≡ skip_decl pattern ∷ decls → AreDecls (Skip word ∷ declarations) all
  start_first : {line : ℕ} {name : Word} {declarations : List Declaration} {decls : List Decl} → AreDecls declarations decls → AreDecls (Start line name ∷ declarations) decls

pub record IsSheetOf (o : OutlineParts) (sheet : Sheet) : Type 0 where
  pub decls : AreDecls o.declarations sheet.decls
  pub literals : sheet.literals ≡ unnamed_literals o
  pub names : sheet.names ≡ grammar_names o
  -- tokens are numbered in the order of their declarations, and then the literals without a name
  pub tokens : sheet.grammar.tokens ≡ length (token_words o) + length sheet.literals
  pub count : sheet.grammar.names ≡ length sheet.names
  pub rules : sheet.grammar.rules ≡ rules_of o
  pub start : sheet.grammar.start ≡ start_by (grammar_names o) (starts o)
  pub templates : sheet.templates ≡ map template_of (alternatives_of o)
  pub declares : sheet.declares ≡ map declares_of (alternatives_of o)
