-- What is read of a sheet so far: its finished parts, and the one that is open.
use Rattle.std.specs.Prelude.{◌≡◌, ◌≢◌, ℕ, List, [], ◌∷◌, ◌++◌, map, All, Option, None, Some, option_and_then}
use Rattle.std.specs.List.{flat_map}
use Rattle.lexeme_theory.specs.declared.lexeme.Lexeme.{Lexeme}
use Rattle.lexeme_theory.specs.declared.lexeme.Lexeme.TheVariants.{Name, Number, Fold, NumberOf, Quoted, Text, Pattern, Directive as directive_lexeme, Mark, Single as single_lexeme}
use Rattle.lexeme_theory.specs.declared.lexeme.Single.TheVariants.{Colon, Bar, Semicolon, LeftBrace, RightBrace}
use Rattle.lexeme_theory.specs.declared.lexeme.Directive.TheVariants.{Token, Skip, Start, Declares}
use Rattle.outline_data.specs.declared.outline.Word.{Word}
use Rattle.outline_data.specs.declared.outline.PlaceUse.{PlaceUse}
use Rattle.outline_data.specs.declared.outline.Declaration.{Declaration}
use Rattle.outline_data.specs.declared.outline.Declaration.TheVariants.{Literal as literal_declared, Matched as matched_declared, Skip as skip_declared, Start as start_declared}
use Rattle.outline_data.specs.declared.rules.Symbol.{Symbol}
use Rattle.outline_data.specs.declared.rules.Symbol.TheVariants.{Name as word_symbol, Quoted as quoted_symbol}
use Rattle.outline_data.specs.declared.rules.TemplatePart.{TemplatePart}
use Rattle.outline_data.specs.declared.rules.TemplatePart.TheVariants.{Text as text_part, Fold as fold_part, Number as number_part}
use Rattle.outline_data.specs.AlternativeParts.{AlternativeParts}
use Rattle.outline_data.specs.GroupParts.{GroupParts}
use Rattle.outline_theory.specs.Spelling.{Kept, bare, single, named, spelled_declaration, spelled_part, spelled_sides, spelled_group}
use Rattle.stage_theory.specs.Stages.{Stage, stage_after}
use Rattle.stage_theory.specs.Stages.Stage.{declarations, token_name, token_text, skip_text, start_name, rules, colon, side, template, behind, mark_place, ended}

-- the declaration that is open
pub data DeclarationDraft : Type 0 where
  no_declaration : DeclarationDraft
  token_begun : DeclarationDraft
  token_named : Word → DeclarationDraft
  skip_begun : DeclarationDraft
  start_begun : ℕ → DeclarationDraft

-- the left side that is open: with its finished alternatives, and the alternative that is open
pub data RuleDraft : Type 0 where
  no_rule : RuleDraft
  left_read : Word → RuleDraft
  side_open : GroupParts → List Symbol → RuleDraft
  template_open : GroupParts → List Symbol → List TemplatePart → RuleDraft
  side_behind : GroupParts → AlternativeParts → RuleDraft
  mark_begun : GroupParts → AlternativeParts → RuleDraft
  rules_ended : RuleDraft

pub data Draft : Type 0 where
  declaring : List Declaration → DeclarationDraft → Draft
  ruling : List Declaration → List GroupParts → RuleDraft → Draft

abbrev pub word : List ℕ → ℕ → Word
word bytes line = record { bytes = bytes; line = line }

abbrev pub place_use : ℕ → ℕ → PlaceUse
place_use place line = record { place = place; line = line }

-- a right side without a template and without marks
abbrev pub plain_side : List Symbol → AlternativeParts
plain_side right = record { right = right; template = None; marks = [] }

abbrev pub with_template : List Symbol → List TemplatePart → AlternativeParts
with_template right parts = record { right = right; template = Some parts; marks = [] }

abbrev pub with_mark : AlternativeParts → PlaceUse → AlternativeParts
with_mark a used = record { right = a.right; template = a.template; marks = a.marks ++ used ∷ [] }

abbrev pub no_sides : Word → GroupParts
no_sides left = record { left = left; alternatives = [] }

abbrev pub with_side : GroupParts → AlternativeParts → GroupParts
with_side g a = record { left = g.left; alternatives = g.alternatives ++ a ∷ [] }

-- how far the sheet is read
abbrev pub declaration_stage : DeclarationDraft → Stage
declaration_stage no_declaration = declarations
declaration_stage token_begun = token_name
declaration_stage (token_named name) = token_text
declaration_stage skip_begun = skip_text
declaration_stage (start_begun line) = start_name

abbrev pub rule_stage : RuleDraft → Stage
rule_stage no_rule = rules
rule_stage (left_read left) = colon
rule_stage (side_open g right) = side
rule_stage (template_open g right parts) = template
rule_stage (side_behind g a) = behind
rule_stage (mark_begun g a) = mark_place
rule_stage rules_ended = ended

abbrev pub stage_of : Draft → Stage
stage_of (declaring ds part) = declaration_stage part
stage_of (ruling ds gs part) = rule_stage part

-- the lexemes that are read
abbrev pub spelled_open_declaration : DeclarationDraft → List Kept
spelled_open_declaration no_declaration = []
spelled_open_declaration token_begun = bare (directive_lexeme Token) ∷ []
spelled_open_declaration (token_named name) = bare (directive_lexeme Token) ∷ named name ∷ []
spelled_open_declaration skip_begun = bare (directive_lexeme Skip) ∷ []
spelled_open_declaration (start_begun line) = (directive_lexeme Start, line) ∷ []

abbrev pub spelled_left : GroupParts → AlternativeParts → List Kept
spelled_left g a = named g.left ∷ spelled_sides Colon (g.alternatives ++ a ∷ [])

abbrev pub spelled_open_rule : RuleDraft → List Kept
spelled_open_rule no_rule = []
spelled_open_rule (left_read left) = named left ∷ []
spelled_open_rule (side_open g right) = spelled_left g (plain_side right)
spelled_open_rule (template_open g right parts) = spelled_left g (plain_side right) ++ single LeftBrace ∷ map spelled_part parts
spelled_open_rule (side_behind g a) = spelled_left g a
spelled_open_rule (mark_begun g a) = spelled_left g a ++ bare (directive_lexeme Declares) ∷ []
spelled_open_rule rules_ended = bare Mark ∷ []

abbrev pub spelled_draft : Draft → List Kept
spelled_draft (declaring ds part) = flat_map spelled_declaration ds ++ spelled_open_declaration part
spelled_draft (ruling ds gs part) = flat_map spelled_declaration ds ++ (bare Mark ∷ (flat_map spelled_group gs ++ spelled_open_rule part))

-- each finished left side has an alternative
abbrev pub IsShapedDraft : Draft → Type 0
IsShapedDraft (declaring ds part) = Unit {0}
IsShapedDraft (ruling ds gs part) = All (λ (g : GroupParts). g.alternatives ≢ []) gs

-- one more lexeme, and its line
abbrev pub more_declarations : List Declaration → Lexeme → ℕ → Option Draft
more_declarations ds (directive_lexeme Token) line = Some (declaring ds token_begun)
more_declarations ds (directive_lexeme Skip) line = Some (declaring ds skip_begun)
more_declarations ds (directive_lexeme Start) line = Some (declaring ds (start_begun line))
more_declarations ds Mark line = Some (ruling ds [] no_rule)
more_declarations ds lexeme line = None

abbrev pub more_token : List Declaration → Lexeme → ℕ → Option Draft
more_token ds (Name bytes) line = Some (declaring ds (token_named (word bytes line)))
more_token ds lexeme line = None

abbrev pub more_token_text : List Declaration → Word → Lexeme → ℕ → Option Draft
more_token_text ds name (Quoted bytes) line = Some (declaring (ds ++ literal_declared name (word bytes line) ∷ []) no_declaration)
more_token_text ds name (Pattern bytes) line = Some (declaring (ds ++ matched_declared name (word bytes line) ∷ []) no_declaration)
more_token_text ds name lexeme line = None

abbrev pub more_skip : List Declaration → Lexeme → ℕ → Option Draft
more_skip ds (Pattern bytes) line = Some (declaring (ds ++ skip_declared (word bytes line) ∷ []) no_declaration)
more_skip ds lexeme line = None

abbrev pub more_start : List Declaration → ℕ → Lexeme → ℕ → Option Draft
more_start ds at (Name bytes) line = Some (declaring (ds ++ start_declared at (word bytes line) ∷ []) no_declaration)
more_start ds at lexeme line = None

abbrev pub more_rules : List Declaration → List GroupParts → Lexeme → ℕ → Option Draft
more_rules ds gs (Name bytes) line = Some (ruling ds gs (left_read (word bytes line)))
more_rules ds gs Mark line = Some (ruling ds gs rules_ended)
more_rules ds gs lexeme line = None

abbrev pub more_left : List Declaration → List GroupParts → Word → Lexeme → ℕ → Option Draft
more_left ds gs left (single_lexeme Colon) line = Some (ruling ds gs (side_open (no_sides left) []))
more_left ds gs left lexeme line = None

abbrev pub more_side : List Declaration → List GroupParts → GroupParts → List Symbol → Lexeme → ℕ → Option Draft
more_side ds gs g right (Name bytes) line = Some (ruling ds gs (side_open g (right ++ word_symbol (word bytes line) ∷ [])))
more_side ds gs g right (Quoted bytes) line = Some (ruling ds gs (side_open g (right ++ quoted_symbol (word bytes line) ∷ [])))
more_side ds gs g right (single_lexeme LeftBrace) line = Some (ruling ds gs (template_open g right []))
more_side ds gs g right (directive_lexeme Declares) line = Some (ruling ds gs (mark_begun g (plain_side right)))
more_side ds gs g right (single_lexeme Bar) line = Some (ruling ds gs (side_open (with_side g (plain_side right)) []))
more_side ds gs g right (single_lexeme Semicolon) line = Some (ruling ds (gs ++ with_side g (plain_side right) ∷ []) no_rule)
more_side ds gs g right lexeme line = None

abbrev pub more_template : List Declaration → List GroupParts → GroupParts → List Symbol → List TemplatePart → Lexeme → ℕ → Option Draft
more_template ds gs g right parts (Text bytes) line = Some (ruling ds gs (template_open g right (parts ++ text_part bytes ∷ [])))
more_template ds gs g right parts (Fold n) line = Some (ruling ds gs (template_open g right (parts ++ fold_part (place_use n line) ∷ [])))
more_template ds gs g right parts (NumberOf n) line = Some (ruling ds gs (template_open g right (parts ++ number_part (place_use n line) ∷ [])))
more_template ds gs g right parts (single_lexeme RightBrace) line = Some (ruling ds gs (side_behind g (with_template right parts)))
more_template ds gs g right parts lexeme line = None

abbrev pub more_behind : List Declaration → List GroupParts → GroupParts → AlternativeParts → Lexeme → ℕ → Option Draft
more_behind ds gs g a (directive_lexeme Declares) line = Some (ruling ds gs (mark_begun g a))
more_behind ds gs g a (single_lexeme Bar) line = Some (ruling ds gs (side_open (with_side g a) []))
more_behind ds gs g a (single_lexeme Semicolon) line = Some (ruling ds (gs ++ with_side g a ∷ []) no_rule)
more_behind ds gs g a lexeme line = None

abbrev pub more_mark : List Declaration → List GroupParts → GroupParts → AlternativeParts → Lexeme → ℕ → Option Draft
more_mark ds gs g a (Number n) line = Some (ruling ds gs (side_behind g (with_mark a (place_use n line))))
more_mark ds gs g a lexeme line = None

abbrev pub more_declaring : List Declaration → DeclarationDraft → Lexeme → ℕ → Option Draft
more_declaring ds no_declaration lexeme line = more_declarations ds lexeme line
more_declaring ds token_begun lexeme line = more_token ds lexeme line
more_declaring ds (token_named name) lexeme line = more_token_text ds name lexeme line
more_declaring ds skip_begun lexeme line = more_skip ds lexeme line
more_declaring ds (start_begun at) lexeme line = more_start ds at lexeme line

abbrev pub more_ruling : List Declaration → List GroupParts → RuleDraft → Lexeme → ℕ → Option Draft
more_ruling ds gs no_rule lexeme line = more_rules ds gs lexeme line
more_ruling ds gs (left_read left) lexeme line = more_left ds gs left lexeme line
more_ruling ds gs (side_open g right) lexeme line = more_side ds gs g right lexeme line
more_ruling ds gs (template_open g right parts) lexeme line = more_template ds gs g right parts lexeme line
more_ruling ds gs (side_behind g a) lexeme line = more_behind ds gs g a lexeme line
more_ruling ds gs (mark_begun g a) lexeme line = more_mark ds gs g a lexeme line
more_ruling ds gs rules_ended lexeme line = None

abbrev pub next_draft : Draft → Lexeme → ℕ → Option Draft
next_draft (declaring ds part) lexeme line = more_declaring ds part lexeme line
next_draft (ruling ds gs part) lexeme line = more_ruling ds gs part lexeme line

abbrev pub draft_after : Draft → List Kept → Option Draft
draft_after draft [] = Some draft
draft_after draft (lexeme ∷ lexemes) = option_and_then (λ next. draft_after next lexemes) (next_draft draft lexeme.0 lexeme.1)

-- the beginning of a sheet, of which nothing is read
abbrev pub first_draft : Draft
first_draft = declaring [] no_declaration

-- the draft is what these lexemes are read as
pub record IsDraftOf (lexemes : List Kept) (draft : Draft) : Type 0 where
  pub spelled : spelled_draft draft ≡ lexemes
  pub shaped : IsShapedDraft draft
  pub stage : stage_after declarations lexemes ≡ Some (stage_of draft)
