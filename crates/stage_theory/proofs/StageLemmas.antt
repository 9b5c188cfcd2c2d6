-- The stages know which lexemes begin a sheet.
use Rattle.std.proofs.Common.{◌≡◌, ◌⊎◌, inl, inr, ℕ, Bool, true, false, List, [], ◌∷◌, ◌++◌, refl, sym, ap, subst, ◌∙◌, append_assoc}
use Rattle.std.specs.Prelude.{map, All, Option, None, Some, IfSome, option_map, option_and_then, if◌then◌else◌}
use Rattle.std.proofs.lemmas.List.{append-nil}
use Rattle.std.proofs.lemmas.List.Elements.{All-append, All-nil, All-cons}
use Rattle.lexeme_theory.specs.declared.lexeme.Lexeme.{Lexeme}
use Rattle.lexeme_theory.specs.declared.lexeme.Lexeme.TheVariants.{Name, Number, Fold, NumberOf, Quoted, Text, Pattern, Directive as directive_lexeme, Mark, Single as single_lexeme}
use Rattle.lexeme_theory.specs.declared.lexeme.Single.TheVariants.{Colon, Bar, Semicolon, LeftBrace, RightBrace}
use Rattle.lexeme_theory.specs.declared.lexeme.Directive.TheVariants.{Token, Skip, Start, Declares}
use Rattle.lexeme_theory.specs.Reading.{Placed}
use Rattle.outline_data.specs.declared.outline.Declaration.{Declaration}
use Rattle.outline_data.specs.AlternativeParts.{AlternativeParts}
use Rattle.outline_data.specs.GroupParts.{GroupParts}
use Rattle.outline_data.specs.Parts.{OutlineParts}
use Rattle.outline_theory.specs.Spelling.{Kept, kept, line_kept, spelled_outline, IsShaped}
use Rattle.outline_theory.specs.Outlines.{BeginsSheet, IsWholeSheet, IsEnded}
use Rattle.stage_theory.specs.Stages.{Stage, next_stage, stage_after}
use Rattle.stage_theory.specs.Stages.Stage.{declarations, rules, ended}
use Rattle.stage_theory.specs.Drafts.{Draft, plain_side, with_side, stage_of, spelled_draft, IsShapedDraft, next_draft, draft_after, first_draft, IsDraftOf}
use Rattle.stage_theory.specs.Drafts.DeclarationDraft.{no_declaration, token_begun, token_named, skip_begun, start_begun}
use Rattle.stage_theory.specs.Drafts.RuleDraft.{no_rule, left_read, side_open, template_open, side_behind, mark_begun, rules_ended}
use Rattle.stage_theory.specs.Drafts.Draft.{declaring, ruling}
use Rattle.stage_theory.proofs.DraftLemmas.{next_spells}
use Rattle.stage_theory.proofs.RunLemmas.{HasSides, whole_open, whole_draft, whole_run}

-- a draft goes on exactly where its stage does
pub stages_agree : (draft : Draft) (lexeme : Lexeme) (line : ℕ) → option_map stage_of (next_draft draft lexeme line) ≡ next_stage (stage_of draft) lexeme
stages_agree (declaring ds no_declaration) (directive_lexeme Token) line = refl
stages_agree (declaring ds no_declaration) (directive_lexeme Skip) line = refl
stages_agree (declaring ds no_declaration) (directive_lexeme Start) line = refl
stages_agree (declaring ds no_declaration) Mark line = refl
stages_agree (declaring ds no_declaration) lexeme line = refl
stages_agree (declaring ds token_begun) (Name bytes) line = refl
stages_agree (declaring ds token_begun) lexeme line = refl
stages_agree (declaring ds (token_named name)) (Quoted bytes) line = refl
stages_agree (declaring ds (token_named name)) (Pattern bytes) line = refl
stages_agree (declaring ds (token_named name)) lexeme line = refl
stages_agree (declaring ds skip_begun) (Pattern bytes) line = refl
stages_agree (declaring ds skip_begun) lexeme line = refl
stages_agree (declaring ds (start_begun at)) (Name bytes) line = refl
stages_agree (declaring ds (start_begun at)) lexeme line = refl
stages_agree (ruling ds gs no_rule) (Name bytes) line = refl
stages_agree (ruling ds gs no_rule) Mark line = refl
stages_agree (ruling ds gs no_rule) lexeme line = refl
stages_agree (ruling ds gs (left_read left)) (single_lexeme Colon) line = refl
stages_agree (ruling ds gs (left_read left)) lexeme line = refl
stages_agree (ruling ds gs (side_open g right)) (Name bytes) line = refl
stages_agree (ruling ds gs (side_open g right)) (Quoted bytes) line = refl
stages_agree (ruling ds gs (side_open g right)) (single_lexeme LeftBrace) line = refl
stages_agree (ruling ds gs (side_open g right)) (directive_lexeme Declares) line = refl
stages_agree (ruling ds gs (side_open g right)) (single_lexeme Bar) line = refl
stages_agree (ruling ds gs (side_open g right)) (single_lexeme Semicolon) line = refl
stages_agree (ruling ds gs (side_open g right)) lexeme line = refl
stages_agree (ruling ds gs (template_open g right parts)) (Text bytes) line = refl
stages_agree (ruling ds gs (template_open g right parts)) (Fold n) line = refl
stages_agree (ruling ds gs (template_open g right parts)) (NumberOf n) line = refl
stages_agree (ruling ds gs (template_open g right parts)) (single_lexeme RightBrace) line = refl
stages_agree (ruling ds gs (template_open g right parts)) lexeme line = refl
stages_agree (ruling ds gs (side_behind g a)) (directive_lexeme Declares) line = refl
stages_agree (ruling ds gs (side_behind g a)) (single_lexeme Bar) line = refl
stages_agree (ruling ds gs (side_behind g a)) (single_lexeme Semicolon) line = refl
stages_agree (ruling ds gs (side_behind g a)) lexeme line = refl
stages_agree (ruling ds gs (mark_begun g a)) (Number n) line = refl
stages_agree (ruling ds gs (mark_begun g a)) lexeme line = refl
stages_agree (ruling ds gs rules_ended) lexeme line = refl

-- the stage behind the lexemes of a draft
pub stages_after : (draft : Draft) (lexemes : List Kept) → option_map stage_of (draft_after draft lexemes) ≡ stage_after (stage_of draft) lexemes
stages_after draft [] = refl
stages_after draft (k ∷ ks) = by_next (next_draft draft k.0 k.1) (λ n. stages_after n ks) ∙ ap (λ o. option_and_then (λ t. stage_after t ks) o) (stages_agree draft k.0 k.1) where
  by_next : (o : Option Draft) → ((n : Draft) → option_map stage_of (draft_after n ks) ≡ stage_after (stage_of n) ks) → option_map stage_of (option_and_then (λ n. draft_after n ks) o) ≡ option_and_then (λ t. stage_after t ks) (option_map stage_of o)
  by_next None each = refl
  by_next (Some n) each = each n

pub stage_append : (s : Stage) (xs ys : List Kept) → stage_after s (xs ++ ys) ≡ option_and_then (λ t. stage_after t ys) (stage_after s xs)
stage_append s [] ys = refl
stage_append s (x ∷ xs) ys = by_next (next_stage s x.0) (λ n. stage_append n xs ys) where
  by_next : (o : Option Stage) → ((n : Stage) → stage_after n (xs ++ ys) ≡ option_and_then (λ t. stage_after t ys) (stage_after n xs)) → option_and_then (λ n. stage_after n (xs ++ ys)) o ≡ option_and_then (λ t. stage_after t ys) (option_and_then (λ n. stage_after n xs) o)
  by_next None each = refl
  by_next (Some n) each = each n

-- a whole sheet's lexemes lead between two left sides, or to the end
abbrev pub whole_stage : Bool → Stage
whole_stage has_rest = if has_rest then ended else rules

whole_open_stage : (ds : List Declaration) (gs : List GroupParts) (has_rest : Bool) → stage_of (ruling ds gs (whole_open has_rest)) ≡ whole_stage has_rest
whole_open_stage ds gs true = refl
whole_open_stage ds gs false = refl

pub whole_stages : (o : OutlineParts) → IsShaped o → stage_after declarations (spelled_outline o) ≡ Some (whole_stage o.has_rest)
whole_stages o shaped =
    sym (stages_after first_draft (spelled_outline o)) ∙ ap (λ d. option_map stage_of d) (whole_run o shaped) ∙ ap Some (whole_open_stage o.declarations o.groups o.has_rest)

-- lexemes that lead to no stage begin no sheet
pub stuck : (lexemes : List Kept) → stage_after declarations lexemes ≡ None → BeginsSheet lexemes → ⊥
stuck lexemes e b =
    let whole = whole_stages b.outline b.shaped in
    let same = ap (λ ks. stage_after declarations ks) b.spelled in
    let none = stage_append declarations lexemes b.rest ∙ ap (λ o. option_and_then (λ t. stage_after t b.rest) o) e in
    cc

some_none : {A : Type 0} (x : A) → Some x ≡ None → ⊥
some_none x e = cc

some_same : {A : Type 0} (x y : A) → Some x ≡ Some y → x ≡ y
some_same x y e = cc

some_holds : {A : Type 0} (P : A → Type 0) (o : Option A) (x : A) → o ≡ Some x → IfSome o P → P x
some_holds P o x e h = let Q : Option _ → Type 0 = λ q. IfSome q P in subst Q e h

not_empty : {A : Type 0} (xs : List A) (x : A) → xs ++ x ∷ [] ≡ [] → ⊥
not_empty [] x e = cc
not_empty (y ∷ xs) x e = cc

group_more : (gs : List GroupParts) (g : GroupParts) (a : AlternativeParts) → All HasSides gs → All HasSides (gs ++ with_side g a ∷ [])
group_more gs g a h = All-append HasSides gs (with_side g a ∷ []) h (All-cons HasSides (with_side g a) [] (not_empty g.alternatives a) (All-nil HasSides))

next_shaped : (draft : Draft) (lexeme : Lexeme) (line : ℕ) → IsShapedDraft draft → IfSome (next_draft draft lexeme line) IsShapedDraft
next_shaped (declaring ds no_declaration) (directive_lexeme Token) line h = tt
next_shaped (declaring ds no_declaration) (directive_lexeme Skip) line h = tt
next_shaped (declaring ds no_declaration) (directive_lexeme Start) line h = tt
next_shaped (declaring ds no_declaration) Mark line h = All-nil _
next_shaped (declaring ds no_declaration) lexeme line h = tt
next_shaped (declaring ds token_begun) (Name bytes) line h = tt
next_shaped (declaring ds token_begun) lexeme line h = tt
next_shaped (declaring ds (token_named name)) (Quoted bytes) line h = tt
next_shaped (declaring ds (token_named name)) (Pattern bytes) line h = tt
next_shaped (declaring ds (token_named name)) lexeme line h = tt
next_shaped (declaring ds skip_begun) (Pattern bytes) line h = tt
next_shaped (declaring ds skip_begun) lexeme line h = tt
next_shaped (declaring ds (start_begun at)) (Name bytes) line h = tt
next_shaped (declaring ds (start_begun at)) lexeme line h = tt
next_shaped (ruling ds gs no_rule) (Name bytes) line h = h
next_shaped (ruling ds gs no_rule) Mark line h = h
next_shaped (ruling ds gs no_rule) lexeme line h = tt
next_shaped (ruling ds gs (left_read left)) (single_lexeme Colon) line h = h
next_shaped (ruling ds gs (left_read left)) lexeme line h = tt
next_shaped (ruling ds gs (side_open g right)) (Name bytes) line h = h
next_shaped (ruling ds gs (side_open g right)) (Quoted bytes) line h = h
next_shaped (ruling ds gs (side_open g right)) (single_lexeme LeftBrace) line h = h
next_shaped (ruling ds gs (side_open g right)) (directive_lexeme Declares) line h = h
next_shaped (ruling ds gs (side_open g right)) (single_lexeme Bar) line h = h
next_shaped (ruling ds gs (side_open g right)) (single_lexeme Semicolon) line h = group_more gs g (plain_side right) h
next_shaped (ruling ds gs (side_open g right)) lexeme line h = tt
next_shaped (ruling ds gs (template_open g right parts)) (Text bytes) line h = h
next_shaped (ruling ds gs (template_open g right parts)) (Fold n) line h = h
next_shaped (ruling ds gs (template_open g right parts)) (NumberOf n) line h = h
next_shaped (ruling ds gs (template_open g right parts)) (single_lexeme RightBrace) line h = h
next_shaped (ruling ds gs (template_open g right parts)) lexeme line h = tt
next_shaped (ruling ds gs (side_behind g a)) (directive_lexeme Declares) line h = h
next_shaped (ruling ds gs (side_behind g a)) (single_lexeme Bar) line h = h
next_shaped (ruling ds gs (side_behind g a)) (single_lexeme Semicolon) line h = group_more gs g a h
next_shaped (ruling ds gs (side_behind g a)) lexeme line h = tt
next_shaped (ruling ds gs (mark_begun g a)) (Number n) line h = h
next_shaped (ruling ds gs (mark_begun g a)) lexeme line h = tt
next_shaped (ruling ds gs rules_ended) lexeme line h = tt

-- a draft of which nothing is read
pub draft_first : IsDraftOf [] first_draft
draft_first = record { spelled = refl; shaped = tt; stage = refl }

-- one lexeme more
pub draft_more : (lexemes : List Kept) (draft : Draft) (lexeme : Lexeme) (line : ℕ) (next : Draft) → IsDraftOf lexemes draft → next_draft draft lexeme line ≡ Some next → IsDraftOf (lexemes ++ (lexeme, line_kept lexeme line) ∷ []) next
draft_more lexemes draft lexeme line next h e = record {
  spelled =
      let k : Kept = (lexeme, line_kept lexeme line) in
      some_holds (λ n. spelled_draft n ≡ spelled_draft draft ++ k ∷ []) (next_draft draft lexeme line) next e (next_spells draft lexeme line) ∙ ap (λ ks. ks ++ k ∷ []) h.spelled;
  shaped = some_holds IsShapedDraft (next_draft draft lexeme line) next e (next_shaped draft lexeme line h.shaped);
  stage =
      let k : Kept = (lexeme, line_kept lexeme line) in
      let on : next_stage (stage_of draft) lexeme ≡ Some (stage_of next) = sym (stages_agree draft lexeme line) ∙ ap (λ o. option_map stage_of o) e in
      stage_append declarations lexemes (k ∷ []) ∙ ap (λ o. option_and_then (λ t. stage_after t (k ∷ [])) o) h.stage ∙ ap (λ o. option_and_then (λ t. stage_after t []) o) on;
}

-- and where the draft has no next, no sheet goes on with the lexeme
pub draft_stuck : (lexemes : List Kept) (draft : Draft) (lexeme : Lexeme) (line kept_line : ℕ) → IsDraftOf lexemes draft → next_draft draft lexeme line ≡ None → BeginsSheet (lexemes ++ (lexeme, kept_line) ∷ []) → ⊥
draft_stuck lexemes draft lexeme line kept_line h e =
    let k : Kept = (lexeme, kept_line) in
    let none : next_stage (stage_of draft) lexeme ≡ None = sym (stages_agree draft lexeme line) ∙ ap (λ o. option_map stage_of o) e in
    stuck (lexemes ++ k ∷ []) (stage_append declarations lexemes (k ∷ []) ∙ ap (λ o. option_and_then (λ t. stage_after t (k ∷ [])) o) h.stage ∙ ap (λ o. option_and_then (λ t. stage_after t []) o) none)

back : (lexemes : List Kept) (k : Kept) → BeginsSheet (lexemes ++ k ∷ []) → BeginsSheet lexemes
back lexemes k b = record { outline = b.outline; shaped = b.shaped; rest = k ∷ b.rest; spelled = b.spelled ∙ append_assoc lexemes (k ∷ []) b.rest }

abbrev pub Completes : Draft → Type 0
Completes draft = (lexemes : List Kept) → IsDraftOf lexemes draft → BeginsSheet lexemes

by_step : (draft : Draft) (lexeme : Lexeme) (line : ℕ) (next : Draft) → next_draft draft lexeme line ≡ Some next → Completes next → Completes draft
by_step draft lexeme line next e more lexemes h =
    back lexemes (lexeme, line_kept lexeme line) (more (lexemes ++ (lexeme, line_kept lexeme line) ∷ []) (draft_more lexemes draft lexeme line next h e))

rules_complete : (ds : List Declaration) (gs : List GroupParts) → Completes (ruling ds gs no_rule)
unfolding spelled_outline
rules_complete ds gs lexemes h = record {
  outline = record { declarations = ds; groups = gs; has_rest = false };
  shaped = h.shaped;
  rest = [];
  spelled = h.spelled ∙ sym (append-nil lexemes);
}

ended_completes : (ds : List Declaration) (gs : List GroupParts) → Completes (ruling ds gs rules_ended)
unfolding spelled_outline
ended_completes ds gs lexemes h = record {
  outline = record { declarations = ds; groups = gs; has_rest = true };
  shaped = h.shaped;
  rest = [];
  spelled = h.spelled ∙ sym (append-nil lexemes);
}

module _ (ds : List Declaration) where
  declarations_complete : Completes (declaring ds no_declaration)
  declarations_complete = by_step _ Mark 0 _ refl (rules_complete ds [])

module _ (ds : List Declaration) (gs : List GroupParts) where
  behind_completes : (g : GroupParts) (a : AlternativeParts) → Completes (ruling ds gs (side_behind g a))
  behind_completes g a = by_step _ (single_lexeme Semicolon) 0 _ refl (rules_complete ds _)

-- the lexemes of a draft begin a sheet
pub draft_begins : (draft : Draft) → Completes draft
draft_begins (declaring ds no_declaration) = declarations_complete ds
draft_begins (declaring ds token_begun) = by_step _ (Name []) 0 _ refl (by_step _ (Quoted []) 0 _ refl (declarations_complete _))
draft_begins (declaring ds (token_named name)) = by_step _ (Quoted []) 0 _ refl (declarations_complete _)
draft_begins (declaring ds skip_begun) = by_step _ (Pattern []) 0 _ refl (declarations_complete _)
draft_begins (declaring ds (start_begun at)) = by_step _ (Name []) 0 _ refl (declarations_complete _)
draft_begins (ruling ds gs no_rule) = rules_complete ds gs
draft_begins (ruling ds gs (left_read left)) = by_step _ (single_lexeme Colon) 0 _ refl (by_step _ (single_lexeme Semicolon) 0 _ refl (rules_complete ds _))
draft_begins (ruling ds gs (side_open g right)) = by_step _ (single_lexeme Semicolon) 0 _ refl (rules_complete ds _)
draft_begins (ruling ds gs (template_open g right parts)) = by_step _ (single_lexeme RightBrace) 0 _ refl (behind_completes ds gs g _)
draft_begins (ruling ds gs (side_behind g a)) = behind_completes ds gs g a
draft_begins (ruling ds gs (mark_begun g a)) = by_step _ (Number 0) 0 _ refl (behind_completes ds gs g _)
draft_begins (ruling ds gs rules_ended) = ended_completes ds gs

-- the draft of lexemes that lead to a stage
pub record Leads (lexemes : List Kept) (stage : Stage) : Type 0 where
  pub draft : Draft
  pub of : IsDraftOf lexemes draft
  pub to : stage_of draft ≡ stage

leads_on : (placed : List Placed) (before : List Kept) (draft : Draft) (stage : Stage) → IsDraftOf before draft → stage_after (stage_of draft) (map kept placed) ≡ Some stage → Leads (before ++ map kept placed) stage
leads_on [] before draft stage h e =
    let P : List Kept → Type 0 = λ ks. Leads ks stage in
    subst P (sym (append-nil before)) (record { draft = draft; of = h; to = cc })
leads_on (p ∷ ps) before draft stage h e =
    let at : Kept = kept p in
    by_next (next_draft draft p.lexeme p.line) refl
    (λ next is after. let P : List Kept → Type 0 = λ ks. Leads ks stage in
    subst P (append_assoc before (kept p ∷ []) (map kept ps)) (leads_on ps (before ++ kept p ∷ []) next stage (draft_more before draft p.lexeme p.line next h is) after))
  where
    by_next : (o : Option Draft) → next_draft draft p.lexeme p.line ≡ o → ((next : Draft) → next_draft draft p.lexeme p.line ≡ Some next → stage_after (stage_of next) (map kept ps) ≡ Some stage → Leads (before ++ map kept (p ∷ ps)) stage) → Leads (before ++ map kept (p ∷ ps)) stage
    by_next None is each =
        let none : next_stage (stage_of draft) p.lexeme ≡ None = sym (stages_agree draft p.lexeme p.line) ∙ ap (λ o. option_map stage_of o) is in
        let gone : stage_after (stage_of draft) (map kept (p ∷ ps)) ≡ None = ap (λ o. option_and_then (λ t. stage_after t (map kept ps)) o) none in
        absurd (some_none stage (sym e ∙ gone))
    by_next (Some next) is each =
        let on : next_stage (stage_of draft) p.lexeme ≡ Some (stage_of next) = sym (stages_agree draft p.lexeme p.line) ∙ ap (λ o. option_map stage_of o) is in
        let rest : stage_after (stage_of draft) (map kept (p ∷ ps)) ≡ stage_after (stage_of next) (map kept ps) = ap (λ o. option_and_then (λ t. stage_after t (map kept ps)) o) on in
        each next is (sym rest ∙ e)

pub leads : (stage : Stage) (placed : List Placed) → stage_after declarations (map kept placed) ≡ Some stage → Leads (map kept placed) stage
leads stage placed e = leads_on placed [] first_draft stage draft_first e

-- the stage of a draft of a whole sheet
pub whole_leads : (lexemes : List Kept) (draft : Draft) → IsDraftOf lexemes draft → IsWholeSheet lexemes → (stage_of draft ≡ rules) ⊎ (stage_of draft ≡ ended)
whole_leads lexemes draft h w =
    let same : Some (stage_of draft) ≡ Some (whole_stage w.outline.has_rest) = sym h.stage ∙ sym (ap (λ ks. stage_after declarations ks) w.spelled) ∙ whole_stages w.outline w.shaped in
    by_rest w.outline.has_rest (some_same (stage_of draft) (whole_stage w.outline.has_rest) same) where
      by_rest : (b : Bool) → stage_of draft ≡ whole_stage b → (stage_of draft ≡ rules) ⊎ (stage_of draft ≡ ended)
      by_rest true e = inr e
      by_rest false e = inl e

pub ended_leads : (lexemes : List Kept) (draft : Draft) → IsDraftOf lexemes draft → IsEnded lexemes → stage_of draft ≡ ended
ended_leads lexemes draft h w =
    let same : Some (stage_of draft) ≡ Some (whole_stage w.outline.has_rest) = sym h.stage ∙ sym (ap (λ ks. stage_after declarations ks) w.spelled) ∙ whole_stages w.outline w.shaped in
    some_same (stage_of draft) (whole_stage w.outline.has_rest) same ∙ ap whole_stage w.rest

pub rules_whole : (lexemes : List Kept) (ds : List Declaration) (gs : List GroupParts) → IsDraftOf lexemes (ruling ds gs no_rule) → spelled_outline (record { declarations = ds; groups = gs; has_rest = false }) ≡ lexemes
unfolding spelled_outline
rules_whole lexemes ds gs h = h.spelled

pub ended_whole : (lexemes : List Kept) (ds : List Declaration) (gs : List GroupParts) → IsDraftOf lexemes (ruling ds gs rules_ended) → spelled_outline (record { declarations = ds; groups = gs; has_rest = true }) ≡ lexemes
unfolding spelled_outline
ended_whole lexemes ds gs h = h.spelled

-- a whole draft has the lexemes of its outline
pub draft_outline : (o : OutlineParts) (lexemes : List Kept) → IsDraftOf lexemes (whole_draft o) → spelled_outline o ≡ lexemes
unfolding spelled_outline
draft_outline o lexemes h = by_rest o.has_rest h.spelled where
  by_rest : (b : Bool) → spelled_draft (ruling o.declarations o.groups (whole_open b)) ≡ lexemes → spelled_outline (record { declarations = o.declarations; groups = o.groups; has_rest = b }) ≡ lexemes
  by_rest true e = e
  by_rest false e = e

-- a draft between two left sides is a whole sheet
pub draft_whole : (lexemes : List Kept) (draft : Draft) → IsDraftOf lexemes draft → stage_of draft ≡ rules → IsWholeSheet lexemes
draft_whole lexemes (ruling ds gs no_rule) h e = record { outline = record { declarations = ds; groups = gs; has_rest = false }; shaped = h.shaped; spelled = rules_whole lexemes ds gs h }
draft_whole lexemes (declaring ds no_declaration) h e = cc
draft_whole lexemes (declaring ds token_begun) h e = cc
draft_whole lexemes (declaring ds (token_named name)) h e = cc
draft_whole lexemes (declaring ds skip_begun) h e = cc
draft_whole lexemes (declaring ds (start_begun at)) h e = cc
draft_whole lexemes (ruling ds gs (left_read left)) h e = cc
draft_whole lexemes (ruling ds gs (side_open g right)) h e = cc
draft_whole lexemes (ruling ds gs (template_open g right parts)) h e = cc
draft_whole lexemes (ruling ds gs (side_behind g a)) h e = cc
draft_whole lexemes (ruling ds gs (mark_begun g a)) h e = cc
draft_whole lexemes (ruling ds gs rules_ended) h e = cc

-- one behind the second `%%` is one that ended
pub draft_ended : (lexemes : List Kept) (draft : Draft) → IsDraftOf lexemes draft → stage_of draft ≡ ended → IsEnded lexemes
draft_ended lexemes (ruling ds gs rules_ended) h e = record { outline = record { declarations = ds; groups = gs; has_rest = true }; shaped = h.shaped; rest = refl; spelled = ended_whole lexemes ds gs h }
draft_ended lexemes (declaring ds no_declaration) h e = cc
draft_ended lexemes (declaring ds token_begun) h e = cc
draft_ended lexemes (declaring ds (token_named name)) h e = cc
draft_ended lexemes (declaring ds skip_begun) h e = cc
draft_ended lexemes (declaring ds (start_begun at)) h e = cc
draft_ended lexemes (ruling ds gs no_rule) h e = cc
draft_ended lexemes (ruling ds gs (left_read left)) h e = cc
draft_ended lexemes (ruling ds gs (side_open g right)) h e = cc
draft_ended lexemes (ruling ds gs (template_open g right parts)) h e = cc
draft_ended lexemes (ruling ds gs (side_behind g a)) h e = cc
draft_ended lexemes (ruling ds gs (mark_begun g a)) h e = cc

ended_is_whole : (lexemes : List Kept) → IsEnded lexemes → IsWholeSheet lexemes
ended_is_whole lexemes w = record { outline = w.outline; shaped = w.shaped; spelled = w.spelled }

-- the laws
pub begins : (stage : Stage) (lexemes : List Placed) → stage_after declarations (map kept lexemes) ≡ Some stage → BeginsSheet (map kept lexemes)
begins stage lexemes e = let l = leads stage lexemes e in draft_begins l.draft (map kept lexemes) l.of

pub whole_one : (stage : Stage) (lexemes : List Placed) → stage_after declarations (map kept lexemes) ≡ Some stage → IsWholeSheet (map kept lexemes) → (stage ≡ rules) ⊎ (stage ≡ ended)
whole_one stage lexemes e w =
    let l = leads stage lexemes e in
    let P : Stage → Type 0 = λ s. (s ≡ rules) ⊎ (s ≡ ended) in
    subst P l.to (whole_leads (map kept lexemes) l.draft l.of w)

pub whole_other : (stage : Stage) (lexemes : List Placed) → stage_after declarations (map kept lexemes) ≡ Some stage → (stage ≡ rules) ⊎ (stage ≡ ended) → IsWholeSheet (map kept lexemes)
whole_other stage lexemes e (inl at) = let l = leads stage lexemes e in draft_whole (map kept lexemes) l.draft l.of (l.to ∙ at)
whole_other stage lexemes e (inr at) = let l = leads stage lexemes e in ended_is_whole (map kept lexemes) (draft_ended (map kept lexemes) l.draft l.of (l.to ∙ at))

pub ended_one : (stage : Stage) (lexemes : List Placed) → stage_after declarations (map kept lexemes) ≡ Some stage → IsEnded (map kept lexemes) → stage ≡ ended
ended_one stage lexemes e w = let l = leads stage lexemes e in sym l.to ∙ ended_leads (map kept lexemes) l.draft l.of w

pub ended_other : (stage : Stage) (lexemes : List Placed) → stage_after declarations (map kept lexemes) ≡ Some stage → stage ≡ ended → IsEnded (map kept lexemes)
ended_other stage lexemes e at = let l = leads stage lexemes e in draft_ended (map kept lexemes) l.draft l.of (l.to ∙ at)
