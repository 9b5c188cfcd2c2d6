-- The lexemes of an outline are read as this outline.
use Rattle.std.proofs.Common.{◌≡◌, ◌≢◌, Bool, true, false, List, [], ◌∷◌, ◌++◌, refl, sym, ap, ◌∙◌, append_assoc}
use Rattle.std.specs.Prelude.{map, All, Option, None, Some, option_and_then, if◌then◌else◌}
use Rattle.std.specs.List.{flat_map}
use Rattle.std.proofs.lemmas.List.{append-nil}
use Rattle.std.proofs.lemmas.List.Elements.{All-head, All-tail}
use Rattle.lexeme_theory.specs.declared.lexeme.Single.TheVariants.{Bar, Semicolon, RightBrace}
use Rattle.lexeme_theory.specs.declared.lexeme.Lexeme.TheVariants.{Single as single_lexeme}
use Rattle.outline_data.specs.declared.outline.Word.{Word}
use Rattle.outline_data.specs.declared.outline.PlaceUse.{PlaceUse}
use Rattle.outline_data.specs.declared.outline.Declaration.{Declaration}
use Rattle.outline_data.specs.declared.outline.Declaration.TheVariants.{Literal as literal_declared, Matched as matched_declared, Skip as skip_declared, Start as start_declared}
use Rattle.outline_data.specs.declared.rules.Symbol.{Symbol}
use Rattle.outline_data.specs.declared.rules.Symbol.TheVariants.{Name as word_symbol, Quoted as quoted_symbol}
use Rattle.outline_data.specs.declared.rules.TemplatePart.{TemplatePart}
use Rattle.outline_data.specs.declared.rules.TemplatePart.TheVariants.{Text as text_part, Fold as fold_part, Number as number_part}
use Rattle.outline_data.specs.AlternativeParts.{AlternativeParts}
use Rattle.outline_data.specs.GroupParts.{GroupParts}
use Rattle.outline_data.specs.Parts.{OutlineParts}
use Rattle.outline_theory.specs.Spelling.{Kept, single, spelled_declaration, spelled_symbol, spelled_part, spelled_template, spelled_mark, spelled_alternative, spelled_sides, spelled_group, spelled_rest, spelled_outline, IsShaped}
use Rattle.stage_theory.specs.Drafts.{RuleDraft, Draft, with_template, with_side, no_sides, next_draft, draft_after, first_draft}
use Rattle.stage_theory.specs.Drafts.DeclarationDraft.{no_declaration}
use Rattle.stage_theory.specs.Drafts.RuleDraft.{no_rule, side_open, template_open, side_behind, rules_ended}
use Rattle.stage_theory.specs.Drafts.Draft.{declaring, ruling}

-- the drafts lead on from each other
pub draft_append : (d : Draft) (xs ys : List Kept) → draft_after d (xs ++ ys) ≡ option_and_then (λ e. draft_after e ys) (draft_after d xs)
draft_append d [] ys = refl
draft_append d (x ∷ xs) ys = by_next (next_draft d x.0 x.1) (λ n. draft_append n xs ys) where
  by_next : (o : Option Draft) → ((n : Draft) → draft_after n (xs ++ ys) ≡ option_and_then (λ e. draft_after e ys) (draft_after n xs)) → option_and_then (λ n. draft_after n (xs ++ ys)) o ≡ option_and_then (λ e. draft_after e ys) (option_and_then (λ n. draft_after n xs) o)
  by_next None each = refl
  by_next (Some n) each = each n

both : (d e f : Draft) (xs ys : List Kept) → draft_after d xs ≡ Some e → draft_after e ys ≡ Some f → draft_after d (xs ++ ys) ≡ Some f
both d e f xs ys one other = draft_append d xs ys ∙ ap (λ o. option_and_then (λ n. draft_after n ys) o) one ∙ other

one_declaration : (ds : List Declaration) (d : Declaration) → draft_after (declaring ds no_declaration) (spelled_declaration d) ≡ Some (declaring (ds ++ d ∷ []) no_declaration)
one_declaration ds (literal_declared name literal) = refl
one_declaration ds (matched_declared name pattern) = refl
one_declaration ds (skip_declared pattern) = refl
one_declaration ds (start_declared line name) = refl

declarations_run : (ds more : List Declaration) → draft_after (declaring ds no_declaration) (flat_map spelled_declaration more) ≡ Some (declaring (ds ++ more) no_declaration)
declarations_run ds [] = ap (λ l. Some (declaring l no_declaration)) (sym (append-nil ds))
declarations_run ds (d ∷ more) =
    both (declaring ds no_declaration) (declaring (ds ++ d ∷ []) no_declaration) _ (spelled_declaration d) (flat_map spelled_declaration more) (one_declaration ds d) (declarations_run (ds ++ d ∷ []) more ∙ ap (λ l. Some (declaring l no_declaration)) (append_assoc ds (d ∷ []) more))

-- behind an alternative: in its right side, or behind its template or its marks
abbrev pub last_open : GroupParts → List Symbol → Option (List TemplatePart) → List PlaceUse → RuleDraft
last_open g right None [] = side_open g right
last_open g right None (used ∷ marks) = side_behind g (record { right = right; template = None; marks = used ∷ marks })
last_open g right (Some parts) marks = side_behind g (record { right = right; template = Some parts; marks = marks })

abbrev pub alternative_read : GroupParts → AlternativeParts → RuleDraft
alternative_read g a = last_open g a.right a.template a.marks

module _ (ds : List Declaration) (gs : List GroupParts) where
  symbols_run : (g : GroupParts) (right more : List Symbol) → draft_after (ruling ds gs (side_open g right)) (map spelled_symbol more) ≡ Some (ruling ds gs (side_open g (right ++ more)))
  symbols_run g right [] = ap (λ l. Some (ruling ds gs (side_open g l))) (sym (append-nil right))
  symbols_run g right (word_symbol w ∷ more) = symbols_run g (right ++ word_symbol w ∷ []) more ∙ ap (λ l. Some (ruling ds gs (side_open g l))) (append_assoc right (word_symbol w ∷ []) more)
  symbols_run g right (quoted_symbol w ∷ more) = symbols_run g (right ++ quoted_symbol w ∷ []) more ∙ ap (λ l. Some (ruling ds gs (side_open g l))) (append_assoc right (quoted_symbol w ∷ []) more)

  parts_run : (g : GroupParts) (right : List Symbol) (parts more : List TemplatePart) → draft_after (ruling ds gs (template_open g right parts)) (map spelled_part more) ≡ Some (ruling ds gs (template_open g right (parts ++ more)))
  parts_run g right parts [] = ap (λ l. Some (ruling ds gs (template_open g right l))) (sym (append-nil parts))
  parts_run g right parts (text_part t ∷ more) = parts_run g right (parts ++ text_part t ∷ []) more ∙ ap (λ l. Some (ruling ds gs (template_open g right l))) (append_assoc parts (text_part t ∷ []) more)
  parts_run g right parts (fold_part u ∷ more) = parts_run g right (parts ++ fold_part u ∷ []) more ∙ ap (λ l. Some (ruling ds gs (template_open g right l))) (append_assoc parts (fold_part u ∷ []) more)
  parts_run g right parts (number_part u ∷ more) = parts_run g right (parts ++ number_part u ∷ []) more ∙ ap (λ l. Some (ruling ds gs (template_open g right l))) (append_assoc parts (number_part u ∷ []) more)

  marks_run : (g : GroupParts) (right : List Symbol) (template : Option (List TemplatePart)) (marks more : List PlaceUse) → draft_after (ruling ds gs (side_behind g (record { right = right; template = template; marks = marks }))) (flat_map spelled_mark more) ≡ Some (ruling ds gs (side_behind g (record { right = right; template = template; marks = marks ++ more })))
  marks_run g right template marks [] = ap (λ l. Some (ruling ds gs (side_behind g (record { right = right; template = template; marks = l })))) (sym (append-nil marks))
  marks_run g right template marks (u ∷ more) = marks_run g right template (marks ++ u ∷ []) more ∙ ap (λ l. Some (ruling ds gs (side_behind g (record { right = right; template = template; marks = l })))) (append_assoc marks (u ∷ []) more)

  behind_symbols : (g : GroupParts) (right : List Symbol) (template : Option (List TemplatePart)) (marks : List PlaceUse) → draft_after (ruling ds gs (side_open g right)) (spelled_template template ++ flat_map spelled_mark marks) ≡ Some (ruling ds gs (last_open g right template marks))
  behind_symbols g right None [] = refl
  behind_symbols g right None (u ∷ marks) = marks_run g right None (u ∷ []) marks
  behind_symbols g right (Some parts) marks =
      both (ruling ds gs (template_open g right [])) (ruling ds gs (side_behind g (with_template right parts))) _ (map spelled_part parts ++ single RightBrace ∷ []) (flat_map spelled_mark marks)
      (both (ruling ds gs (template_open g right [])) (ruling ds gs (template_open g right parts)) _ (map spelled_part parts) (single RightBrace ∷ []) (parts_run g right [] parts) refl)
      (marks_run g right (Some parts) [] marks)

  alternative_run : (g : GroupParts) (a : AlternativeParts) → draft_after (ruling ds gs (side_open g [])) (spelled_alternative a) ≡ Some (ruling ds gs (alternative_read g a))
  alternative_run g a =
      both (ruling ds gs (side_open g [])) (ruling ds gs (side_open g a.right)) _ (map spelled_symbol a.right) (spelled_template a.template ++ flat_map spelled_mark a.marks) (symbols_run g [] a.right) (behind_symbols g a.right a.template a.marks)

  read_bar : (g : GroupParts) (right : List Symbol) (template : Option (List TemplatePart)) (marks : List PlaceUse) → next_draft (ruling ds gs (last_open g right template marks)) (single_lexeme Bar) 0 ≡ Some (ruling ds gs (side_open (with_side g (record { right = right; template = template; marks = marks })) []))
  read_bar g right None [] = refl
  read_bar g right None (u ∷ marks) = refl
  read_bar g right (Some parts) marks = refl

  read_semicolon : (g : GroupParts) (right : List Symbol) (template : Option (List TemplatePart)) (marks : List PlaceUse) → draft_after (ruling ds gs (last_open g right template marks)) (single Semicolon ∷ []) ≡ Some (ruling ds (gs ++ with_side g (record { right = right; template = template; marks = marks }) ∷ []) no_rule)
  read_semicolon g right None [] = refl
  read_semicolon g right None (u ∷ marks) = refl
  read_semicolon g right (Some parts) marks = refl

  -- the alternatives behind one, and the semicolon
  sides_run : (g : GroupParts) (a : AlternativeParts) (sides : List AlternativeParts) → draft_after (ruling ds gs (alternative_read g a)) (spelled_sides Bar sides ++ single Semicolon ∷ []) ≡ Some (ruling ds (gs ++ record { left = g.left; alternatives = g.alternatives ++ (a ∷ sides) } ∷ []) no_rule)
  sides_run g a [] = read_semicolon g a.right a.template a.marks
  sides_run g a (b ∷ sides) =
      let rest : List Kept = spelled_sides Bar sides ++ single Semicolon ∷ [] in
      let more : draft_after (ruling ds gs (side_open (with_side g a) [])) (spelled_alternative b ++ rest) ≡ Some (ruling ds (gs ++ record { left = g.left; alternatives = (g.alternatives ++ a ∷ []) ++ (b ∷ sides) } ∷ []) no_rule) =
      both (ruling ds gs (side_open (with_side g a) [])) (ruling ds gs (alternative_read (with_side g a) b)) _ (spelled_alternative b) rest (alternative_run (with_side g a) b) (sides_run (with_side g a) b sides) in
      ap (λ o. option_and_then (λ n. draft_after n ((spelled_alternative b ++ spelled_sides Bar sides) ++ single Semicolon ∷ [])) o) (read_bar g a.right a.template a.marks)
      ∙ ap (λ ks. draft_after (ruling ds gs (side_open (with_side g a) [])) ks) (append_assoc (spelled_alternative b) (spelled_sides Bar sides) (single Semicolon ∷ []))
      ∙ more
      ∙ ap (λ l. Some (ruling ds (gs ++ record { left = g.left; alternatives = l } ∷ []) no_rule)) (append_assoc g.alternatives (a ∷ []) (b ∷ sides))

  group_run : (left : Word) (sides : List AlternativeParts) → sides ≢ [] → draft_after (ruling ds gs no_rule) (spelled_group (record { left = left; alternatives = sides })) ≡ Some (ruling ds (gs ++ record { left = left; alternatives = sides } ∷ []) no_rule)
  group_run left [] some = absurd (some refl)
  group_run left (a ∷ sides) some =
      ap (λ ks. draft_after (ruling ds gs (side_open (no_sides left) [])) ks) (append_assoc (spelled_alternative a) (spelled_sides Bar sides) (single Semicolon ∷ []))
      ∙ both (ruling ds gs (side_open (no_sides left) [])) (ruling ds gs (alternative_read (no_sides left) a)) _ (spelled_alternative a) (spelled_sides Bar sides ++ single Semicolon ∷ []) (alternative_run (no_sides left) a) (sides_run (no_sides left) a sides)

abbrev pub HasSides : GroupParts → Type 0
HasSides g = g.alternatives ≢ []

groups_run : (ds : List Declaration) (gs more : List GroupParts) → All HasSides more → draft_after (ruling ds gs no_rule) (flat_map spelled_group more) ≡ Some (ruling ds (gs ++ more) no_rule)
groups_run ds gs [] shaped = ap (λ l. Some (ruling ds l no_rule)) (sym (append-nil gs))
groups_run ds gs (g ∷ more) shaped =
    both (ruling ds gs no_rule) (ruling ds (gs ++ g ∷ []) no_rule) _ (spelled_group g) (flat_map spelled_group more) (group_run ds gs g.left g.alternatives (All-head HasSides g more shaped)) (groups_run ds (gs ++ g ∷ []) more (All-tail HasSides g more shaped) ∙ ap (λ l. Some (ruling ds l no_rule)) (append_assoc gs (g ∷ []) more))

-- the whole sheet
abbrev pub whole_open : Bool → RuleDraft
whole_open has_rest = if has_rest then rules_ended else no_rule

abbrev pub whole_draft : OutlineParts → Draft
whole_draft o = ruling o.declarations o.groups (whole_open o.has_rest)

rest_run : (ds : List Declaration) (gs : List GroupParts) (has_rest : Bool) → draft_after (ruling ds gs no_rule) (spelled_rest has_rest) ≡ Some (ruling ds gs (whole_open has_rest))
rest_run ds gs true = refl
rest_run ds gs false = refl

pub whole_run : (o : OutlineParts) → IsShaped o → draft_after first_draft (spelled_outline o) ≡ Some (whole_draft o)
unfolding spelled_outline
whole_run o shaped =
    let ds : List Declaration = o.declarations in
    both first_draft (declaring ds no_declaration) _ (flat_map spelled_declaration ds) _ (declarations_run [] ds)
    (both (ruling ds [] no_rule) (ruling ds o.groups no_rule) _ (flat_map spelled_group o.groups) (spelled_rest o.has_rest) (groups_run ds [] o.groups shaped) (rest_run ds o.groups o.has_rest))
