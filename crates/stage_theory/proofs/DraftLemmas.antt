-- One more lexeme is spelled behind those of the draft.
use Rattle.std.proofs.Common.{◌≡◌, ℕ, List, [], ◌∷◌, ◌++◌, refl, sym, ap, ◌∙◌, append_assoc}
use Rattle.std.specs.Prelude.{map, IfSome}
use Rattle.std.specs.List.{flat_map}
use Rattle.std.proofs.lemmas.List.{append-nil, map-append}
use Rattle.std.proofs.lemmas.Grind.{flat_map-append}
use Rattle.lexeme_theory.specs.declared.lexeme.Lexeme.{Lexeme}
use Rattle.lexeme_theory.specs.declared.lexeme.Lexeme.TheVariants.{Name, Number, Fold, NumberOf, Quoted, Text, Pattern, Directive as directive_lexeme, Mark, Single as single_lexeme}
use Rattle.lexeme_theory.specs.declared.lexeme.Single.{Single}
use Rattle.lexeme_theory.specs.declared.lexeme.Single.TheVariants.{Colon, Bar, Semicolon, LeftBrace, RightBrace}
use Rattle.lexeme_theory.specs.declared.lexeme.Directive.TheVariants.{Token, Skip, Start, Declares}
use Rattle.outline_data.specs.declared.outline.Word.{Word}
use Rattle.outline_data.specs.declared.outline.PlaceUse.{PlaceUse}
use Rattle.outline_data.specs.declared.outline.Declaration.{Declaration}
use Rattle.outline_data.specs.declared.outline.Declaration.TheVariants.{Literal as literal_declared, Matched as matched_declared, Skip as skip_declared, Start as start_declared}
use Rattle.outline_data.specs.declared.rules.Symbol.{Symbol}
use Rattle.outline_data.specs.declared.rules.Symbol.TheVariants.{Name as word_symbol, Quoted as quoted_symbol}
use Rattle.outline_data.specs.declared.rules.TemplatePart.{TemplatePart}
use Rattle.outline_data.specs.declared.rules.TemplatePart.TheVariants.{Text as text_part, Fold as fold_part, Number as number_part}
use Rattle.outline_data.specs.AlternativeParts.{AlternativeParts}
use Rattle.outline_data.specs.GroupParts.{GroupParts}
use Rattle.outline_theory.specs.Spelling.{Kept, line_kept, bare, single, named, spelled_declaration, spelled_symbol, spelled_part, spelled_template, spelled_mark, spelled_alternative, spelled_sides, spelled_group}
use Rattle.stage_theory.specs.Drafts.{Draft, word, place_use, plain_side, with_template, with_mark, with_side, spelled_open_declaration, spelled_left, spelled_open_rule, spelled_draft, more_declarations, more_token, more_token_text, more_skip, more_start, more_rules, more_left, more_side, more_template, more_behind, more_mark, next_draft}
use Rattle.stage_theory.specs.Drafts.DeclarationDraft.{no_declaration, token_begun, token_named, skip_begun, start_begun}
use Rattle.stage_theory.specs.Drafts.RuleDraft.{no_rule, left_read, side_open, template_open, side_behind, mark_begun, rules_ended}
use Rattle.stage_theory.specs.Drafts.Draft.{declaring, ruling}

-- more lexemes of the last alternative
sides_more : (separator : Single) (sides : List AlternativeParts) (a b : AlternativeParts) (more : List Kept) → spelled_alternative a ++ more ≡ spelled_alternative b → spelled_sides separator (sides ++ a ∷ []) ++ more ≡ spelled_sides separator (sides ++ b ∷ [])
sides_more separator [] a b more e =
    ap (λ ks. single separator ∷ ks) (ap (λ ks. ks ++ more) (append-nil (spelled_alternative a)) ∙ e ∙ sym (append-nil (spelled_alternative b)))
sides_more separator (c ∷ sides) a b more e =
    ap (λ ks. single separator ∷ ks) (append_assoc (spelled_alternative c) (spelled_sides Bar (sides ++ a ∷ [])) more ∙ ap (λ ks. spelled_alternative c ++ ks) (sides_more Bar sides a b more e))

-- a bar behind it
sides_bar : (separator : Single) (sides : List AlternativeParts) (a : AlternativeParts) → spelled_sides separator (sides ++ a ∷ []) ++ single Bar ∷ [] ≡ spelled_sides separator ((sides ++ a ∷ []) ++ plain_side [] ∷ [])
sides_bar separator [] a =
    ap (λ ks. single separator ∷ ks) (append_assoc (spelled_alternative a) [] (single Bar ∷ []))
sides_bar separator (c ∷ sides) a =
    ap (λ ks. single separator ∷ ks) (append_assoc (spelled_alternative c) (spelled_sides Bar (sides ++ a ∷ [])) (single Bar ∷ []) ∙ ap (λ ks. spelled_alternative c ++ ks) (sides_bar Bar sides a))

left_more : (g : GroupParts) (a b : AlternativeParts) (more : List Kept) → spelled_alternative a ++ more ≡ spelled_alternative b → spelled_left g a ++ more ≡ spelled_left g b
left_more g a b more e = ap (λ ks. named g.left ∷ ks) (sides_more Colon g.alternatives a b more e)

-- a symbol more
right_more : (right : List Symbol) (s : Symbol) → spelled_alternative (plain_side right) ++ spelled_symbol s ∷ [] ≡ spelled_alternative (plain_side (right ++ s ∷ []))
right_more right s =
    ap (λ ks. ks ++ spelled_symbol s ∷ []) (append-nil (map spelled_symbol right)) ∙ sym (map-append spelled_symbol right (s ∷ [])) ∙ sym (append-nil (map spelled_symbol (right ++ s ∷ [])))

-- a template
template_more : (right : List Symbol) (parts : List TemplatePart) → spelled_alternative (plain_side right) ++ (single LeftBrace ∷ (map spelled_part parts ++ single RightBrace ∷ [])) ≡ spelled_alternative (with_template right parts)
template_more right parts =
    ap (λ ks. ks ++ (single LeftBrace ∷ (map spelled_part parts ++ single RightBrace ∷ []))) (append-nil (map spelled_symbol right)) ∙ ap (λ ks. map spelled_symbol right ++ ks) (sym (append-nil (single LeftBrace ∷ (map spelled_part parts ++ single RightBrace ∷ []))))

-- a mark more
marks_more : (a : AlternativeParts) (used : PlaceUse) → spelled_alternative a ++ spelled_mark used ≡ spelled_alternative (with_mark a used)
marks_more a used =
    let marks : flat_map spelled_mark (a.marks ++ used ∷ []) ≡ flat_map spelled_mark a.marks ++ spelled_mark used = flat_map-append spelled_mark a.marks (used ∷ []) in
    append_assoc (map spelled_symbol a.right) (spelled_template a.template ++ flat_map spelled_mark a.marks) (spelled_mark used)
    ∙ ap (λ ks. map spelled_symbol a.right ++ ks) (append_assoc (spelled_template a.template) (flat_map spelled_mark a.marks) (spelled_mark used) ∙ ap (λ ks. spelled_template a.template ++ ks) (sym marks))

-- behind the finished declarations
module _ (ds : List Declaration) where
  open_declaration : (x y : List Kept) (k : Kept) → x ++ k ∷ [] ≡ y → flat_map spelled_declaration ds ++ y ≡ (flat_map spelled_declaration ds ++ x) ++ k ∷ []
  open_declaration x y k e = sym (append_assoc (flat_map spelled_declaration ds) x (k ∷ []) ∙ ap (λ ks. flat_map spelled_declaration ds ++ ks) e)

  done_declaration : (x : List Kept) (d : Declaration) (k : Kept) → x ++ k ∷ [] ≡ spelled_declaration d → flat_map spelled_declaration (ds ++ d ∷ []) ++ [] ≡ (flat_map spelled_declaration ds ++ x) ++ k ∷ []
  done_declaration x d k e =
      append-nil (flat_map spelled_declaration (ds ++ d ∷ [])) ∙ flat_map-append spelled_declaration ds (d ∷ []) ∙ ap (λ ks. flat_map spelled_declaration ds ++ ks) (append-nil (spelled_declaration d)) ∙ open_declaration x (spelled_declaration d) k e

  module _ (gs : List GroupParts) where
    open_rule : (x y : List Kept) (k : Kept) → x ++ k ∷ [] ≡ y → flat_map spelled_declaration ds ++ (bare Mark ∷ (flat_map spelled_group gs ++ y)) ≡ (flat_map spelled_declaration ds ++ (bare Mark ∷ (flat_map spelled_group gs ++ x))) ++ k ∷ []
    open_rule x y k e =
        open_declaration (bare Mark ∷ (flat_map spelled_group gs ++ x)) (bare Mark ∷ (flat_map spelled_group gs ++ y)) k (ap (λ ks. bare Mark ∷ ks) (append_assoc (flat_map spelled_group gs) x (k ∷ []) ∙ ap (λ ks. flat_map spelled_group gs ++ ks) e))

    done_rule : (x : List Kept) (g : GroupParts) (k : Kept) → x ++ k ∷ [] ≡ spelled_group g → flat_map spelled_declaration ds ++ (bare Mark ∷ (flat_map spelled_group (gs ++ g ∷ []) ++ [])) ≡ (flat_map spelled_declaration ds ++ (bare Mark ∷ (flat_map spelled_group gs ++ x))) ++ k ∷ []
    done_rule x g k e =
        ap (λ ks. flat_map spelled_declaration ds ++ (bare Mark ∷ ks)) (append-nil (flat_map spelled_group (gs ++ g ∷ [])) ∙ flat_map-append spelled_group gs (g ∷ []) ∙ ap (λ ks. flat_map spelled_group gs ++ ks) (append-nil (spelled_group g))) ∙ open_rule x (spelled_group g) k e

-- the lexeme comes behind what the draft spells
abbrev pub IsMore : Draft → Lexeme → ℕ → Draft → Type 0
IsMore draft lexeme line next = spelled_draft next ≡ spelled_draft draft ++ (lexeme, line_kept lexeme line) ∷ []

module _ (ds : List Declaration) where
  declarations_spell : (lexeme : Lexeme) (line : ℕ) → IfSome (more_declarations ds lexeme line) (IsMore (declaring ds no_declaration) lexeme line)
  declarations_spell (directive_lexeme Token) line = open_declaration ds [] _ _ refl
  declarations_spell (directive_lexeme Skip) line = open_declaration ds [] _ _ refl
  declarations_spell (directive_lexeme Start) line = open_declaration ds [] _ _ refl
  declarations_spell Mark line = open_declaration ds [] _ _ refl
  declarations_spell lexeme line = tt

  token_spell : (lexeme : Lexeme) (line : ℕ) → IfSome (more_token ds lexeme line) (IsMore (declaring ds token_begun) lexeme line)
  token_spell (Name bytes) line = open_declaration ds (bare (directive_lexeme Token) ∷ []) _ _ refl
  token_spell lexeme line = tt

  token_text_spell : (name : Word) (lexeme : Lexeme) (line : ℕ) → IfSome (more_token_text ds name lexeme line) (IsMore (declaring ds (token_named name)) lexeme line)
  token_text_spell name (Quoted bytes) line = done_declaration ds (spelled_open_declaration (token_named name)) (literal_declared name (word bytes line)) _ refl
  token_text_spell name (Pattern bytes) line = done_declaration ds (spelled_open_declaration (token_named name)) (matched_declared name (word bytes line)) _ refl
  token_text_spell name lexeme line = tt

  skip_spell : (lexeme : Lexeme) (line : ℕ) → IfSome (more_skip ds lexeme line) (IsMore (declaring ds skip_begun) lexeme line)
  skip_spell (Pattern bytes) line = done_declaration ds (spelled_open_declaration skip_begun) (skip_declared (word bytes line)) _ refl
  skip_spell lexeme line = tt

  start_spell : (at : ℕ) (lexeme : Lexeme) (line : ℕ) → IfSome (more_start ds at lexeme line) (IsMore (declaring ds (start_begun at)) lexeme line)
  start_spell at (Name bytes) line = done_declaration ds (spelled_open_declaration (start_begun at)) (start_declared at (word bytes line)) _ refl
  start_spell at lexeme line = tt

  module _ (gs : List GroupParts) where
    rules_spell : (lexeme : Lexeme) (line : ℕ) → IfSome (more_rules ds gs lexeme line) (IsMore (ruling ds gs no_rule) lexeme line)
    rules_spell (Name bytes) line = open_rule ds gs [] _ _ refl
    rules_spell Mark line = open_rule ds gs [] _ _ refl
    rules_spell lexeme line = tt

    left_spell : (left : Word) (lexeme : Lexeme) (line : ℕ) → IfSome (more_left ds gs left lexeme line) (IsMore (ruling ds gs (left_read left)) lexeme line)
    left_spell left (single_lexeme Colon) line = open_rule ds gs (spelled_open_rule (left_read left)) _ _ refl
    left_spell left lexeme line = tt

    side_spell : (g : GroupParts) (right : List Symbol) (lexeme : Lexeme) (line : ℕ) → IfSome (more_side ds gs g right lexeme line) (IsMore (ruling ds gs (side_open g right)) lexeme line)
    side_spell g right (Name bytes) line = open_rule ds gs (spelled_left g (plain_side right)) _ _ (left_more g (plain_side right) _ _ (right_more right (word_symbol (word bytes line))))
    side_spell g right (Quoted bytes) line = open_rule ds gs (spelled_left g (plain_side right)) _ _ (left_more g (plain_side right) _ _ (right_more right (quoted_symbol (word bytes line))))
    side_spell g right (single_lexeme LeftBrace) line = open_rule ds gs (spelled_left g (plain_side right)) _ _ refl
    side_spell g right (directive_lexeme Declares) line = open_rule ds gs (spelled_left g (plain_side right)) _ _ refl
    side_spell g right (single_lexeme Bar) line = open_rule ds gs (spelled_left g (plain_side right)) _ _ (ap (λ ks. named g.left ∷ ks) (sides_bar Colon g.alternatives (plain_side right)))
    side_spell g right (single_lexeme Semicolon) line = done_rule ds gs (spelled_left g (plain_side right)) (with_side g (plain_side right)) _ refl
    side_spell g right lexeme line = tt

    part_spell : (g : GroupParts) (right : List Symbol) (parts : List TemplatePart) (part : TemplatePart) → (spelled_left g (plain_side right) ++ single LeftBrace ∷ map spelled_part parts) ++ spelled_part part ∷ [] ≡ spelled_left g (plain_side right) ++ single LeftBrace ∷ map spelled_part (parts ++ part ∷ [])
    part_spell g right parts part = append_assoc (spelled_left g (plain_side right)) (single LeftBrace ∷ map spelled_part parts) (spelled_part part ∷ []) ∙ ap (λ ks. spelled_left g (plain_side right) ++ single LeftBrace ∷ ks) (sym (map-append spelled_part parts (part ∷ [])))

    template_spell : (g : GroupParts) (right : List Symbol) (parts : List TemplatePart) (lexeme : Lexeme) (line : ℕ) → IfSome (more_template ds gs g right parts lexeme line) (IsMore (ruling ds gs (template_open g right parts)) lexeme line)
    template_spell g right parts (Text bytes) line = open_rule ds gs (spelled_open_rule (template_open g right parts)) _ _ (part_spell g right parts (text_part bytes))
    template_spell g right parts (Fold n) line = open_rule ds gs (spelled_open_rule (template_open g right parts)) _ _ (part_spell g right parts (fold_part (place_use n line)))
    template_spell g right parts (NumberOf n) line = open_rule ds gs (spelled_open_rule (template_open g right parts)) _ _ (part_spell g right parts (number_part (place_use n line)))
    template_spell g right parts (single_lexeme RightBrace) line =
        open_rule ds gs (spelled_open_rule (template_open g right parts)) _ _ (append_assoc (spelled_left g (plain_side right)) (single LeftBrace ∷ map spelled_part parts) (single RightBrace ∷ []) ∙ left_more g (plain_side right) _ _ (template_more right parts))
    template_spell g right parts lexeme line = tt

    behind_spell : (g : GroupParts) (a : AlternativeParts) (lexeme : Lexeme) (line : ℕ) → IfSome (more_behind ds gs g a lexeme line) (IsMore (ruling ds gs (side_behind g a)) lexeme line)
    behind_spell g a (directive_lexeme Declares) line = open_rule ds gs (spelled_left g a) _ _ refl
    behind_spell g a (single_lexeme Bar) line = open_rule ds gs (spelled_left g a) _ _ (ap (λ ks. named g.left ∷ ks) (sides_bar Colon g.alternatives a))
    behind_spell g a (single_lexeme Semicolon) line = done_rule ds gs (spelled_left g a) (with_side g a) _ refl
    behind_spell g a lexeme line = tt

    mark_spell : (g : GroupParts) (a : AlternativeParts) (lexeme : Lexeme) (line : ℕ) → IfSome (more_mark ds gs g a lexeme line) (IsMore (ruling ds gs (mark_begun g a)) lexeme line)
    mark_spell g a (Number n) line =
        open_rule ds gs (spelled_open_rule (mark_begun g a)) _ _ (append_assoc (spelled_left g a) (bare (directive_lexeme Declares) ∷ []) ((Number n, line) ∷ []) ∙ left_more g a _ _ (marks_more a (place_use n line)))
    mark_spell g a lexeme line = tt

-- what one more lexeme makes of the draft spells it, too
pub next_spells : (draft : Draft) (lexeme : Lexeme) (line : ℕ) → IfSome (next_draft draft lexeme line) (IsMore draft lexeme line)
next_spells (declaring ds no_declaration) lexeme line = declarations_spell ds lexeme line
next_spells (declaring ds token_begun) lexeme line = token_spell ds lexeme line
next_spells (declaring ds (token_named name)) lexeme line = token_text_spell ds name lexeme line
next_spells (declaring ds skip_begun) lexeme line = skip_spell ds lexeme line
next_spells (declaring ds (start_begun at)) lexeme line = start_spell ds at lexeme line
next_spells (ruling ds gs no_rule) lexeme line = rules_spell ds gs lexeme line
next_spells (ruling ds gs (left_read left)) lexeme line = left_spell ds gs left lexeme line
next_spells (ruling ds gs (side_open g right)) lexeme line = side_spell ds gs g right lexeme line
next_spells (ruling ds gs (template_open g right parts)) lexeme line = template_spell ds gs g right parts lexeme line
next_spells (ruling ds gs (side_behind g a)) lexeme line = behind_spell ds gs g a lexeme line
next_spells (ruling ds gs (mark_begun g a)) lexeme line = mark_spell ds gs g a lexeme line
next_spells (ruling ds gs rules_ended) lexeme line = tt
