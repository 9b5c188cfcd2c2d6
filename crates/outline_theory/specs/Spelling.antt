-- How an outline is spelled: the grammar of sheets, as the list of lexemes that a sheet with this outline has.
use Rattle.std.specs.Prelude.{◌≢◌, ℕ, Bool, List, [], ◌∷◌, ◌++◌, map, All, Option, None, Some, if◌then◌else◌}
use Rattle.std.specs.List.{flat_map}
use Rattle.lexeme_theory.specs.declared.lexeme.Lexeme.{Lexeme}
use Rattle.lexeme_theory.specs.declared.lexeme.Lexeme.TheVariants.{Name, Number, Fold, NumberOf, Quoted, Text, Pattern, Directive as directive_lexeme, Mark, Single as single_lexeme}
use Rattle.lexeme_theory.specs.declared.lexeme.Single.{Single}
use Rattle.lexeme_theory.specs.declared.lexeme.Single.TheVariants.{Colon, Bar, Semicolon, LeftBrace, RightBrace}
use Rattle.lexeme_theory.specs.declared.lexeme.Directive.{Directive}
use Rattle.lexeme_theory.specs.declared.lexeme.Directive.TheVariants.{Token, Skip, Start, Declares}
use Rattle.lexeme_theory.specs.Reading.{Placed}
use Rattle.outline_data.specs.declared.outline.Word.{Word}
use Rattle.outline_data.specs.declared.outline.PlaceUse.{PlaceUse}
use Rattle.outline_data.specs.declared.outline.Declaration.{Declaration}
use Rattle.outline_data.specs.declared.outline.Declaration.TheVariants.{Literal as literal_declared, Matched as matched_declared, Skip as skip_declared, Start as start_declared}
use Rattle.outline_data.specs.declared.rules.Symbol.{Symbol}
use Rattle.outline_data.specs.declared.rules.Symbol.TheVariants.{Name as word_symbol, Quoted as quoted_symbol}
use Rattle.outline_data.specs.declared.rules.TemplatePart.{TemplatePart}
use Rattle.outline_data.specs.declared.rules.TemplatePart.TheVariants.{Text as text_part, Fold as fold_part, Number as number_part}
use Rattle.outline_data.specs.AlternativeParts.{AlternativeParts}
use Rattle.outline_data.specs.GroupParts.{GroupParts}
use Rattle.outline_data.specs.Parts.{OutlineParts}

-- a lexeme and its line; the line is left out, as 0, where no fault of an outline can stand on the lexeme
abbrev pub Kept : Type 0
Kept = Lexeme × ℕ

abbrev pub directive_line : Directive → ℕ → ℕ
directive_line Token line = 0
directive_line Skip line = 0
directive_line Start line = line
directive_line Declares line = 0

abbrev pub line_kept : Lexeme → ℕ → ℕ
line_kept (Name bytes) line = line
line_kept (Number n) line = line
line_kept (Fold n) line = line
line_kept (NumberOf n) line = line
line_kept (Quoted bytes) line = line
line_kept (Text bytes) line = 0
line_kept (Pattern bytes) line = line
line_kept (directive_lexeme directive) line = directive_line directive line
line_kept Mark line = 0
line_kept (single_lexeme single) line = 0

abbrev pub kept : Placed → Kept
kept placed = (placed.lexeme, line_kept placed.lexeme placed.line)

abbrev pub bare : Lexeme → Kept
bare lexeme = (lexeme, 0)

abbrev pub single : Single → Kept
single s = bare (single_lexeme s)

abbrev pub named : Word → Kept
named word = (Name word.bytes, word.line)

abbrev pub quoted : Word → Kept
quoted word = (Quoted word.bytes, word.line)

abbrev pub matched : Word → Kept
matched word = (Pattern word.bytes, word.line)

abbrev pub spelled_declaration : Declaration → List Kept
spelled_declaration (literal_declared name literal) = bare (directive_lexeme Token) ∷ named name ∷ quoted literal ∷ []
spelled_declaration (matched_declared name pattern) = bare (directive_lexeme Token) ∷ named name ∷ matched pattern ∷ []
spelled_declaration (skip_declared pattern) = bare (directive_lexeme Skip) ∷ matched pattern ∷ []
spelled_declaration (start_declared line name) = (directive_lexeme Start, line) ∷ named name ∷ []

abbrev pub spelled_symbol : Symbol → Kept
spelled_symbol (word_symbol word) = named word
spelled_symbol (quoted_symbol word) = quoted word

abbrev pub spelled_part : TemplatePart → Kept
spelled_part (text_part bytes) = bare (Text bytes)
spelled_part (fold_part used) = (Fold used.place, used.line)
spelled_part (number_part used) = (NumberOf used.place, used.line)

abbrev pub spelled_template : Option (List TemplatePart) → List Kept
spelled_template None = []
spelled_template (Some parts) = single LeftBrace ∷ (map spelled_part parts ++ single RightBrace ∷ [])

abbrev pub spelled_mark : PlaceUse → List Kept
spelled_mark used = bare (directive_lexeme Declares) ∷ (Number used.place, used.line) ∷ []

abbrev pub spelled_alternative : AlternativeParts → List Kept
spelled_alternative a = map spelled_symbol a.right ++ (spelled_template a.template ++ flat_map spelled_mark a.marks)

-- a bar stands before each alternative but the first, and the colon before that
abbrev pub spelled_sides : Single → List AlternativeParts → List Kept
spelled_sides separator [] = []
spelled_sides separator (a ∷ alternatives) = single separator ∷ (spelled_alternative a ++ spelled_sides Bar alternatives)

abbrev pub spelled_group : GroupParts → List Kept
spelled_group g = named g.left ∷ (spelled_sides Colon g.alternatives ++ single Semicolon ∷ [])

abbrev pub spelled_rest : Bool → List Kept
spelled_rest has_rest = if has_rest then bare Mark ∷ [] else []

unfoldable pub spelled_outline : OutlineParts → List Kept
spelled_outline o = flat_map spelled_declaration o.declarations ++ (bare Mark ∷ (flat_map spelled_group o.groups ++ spelled_rest o.has_rest))

-- each left side has an alternative
abbrev pub IsShaped : OutlineParts → Type 0
IsShaped o = All (λ (g : GroupParts). g.alternatives ≢ []) o.groups
