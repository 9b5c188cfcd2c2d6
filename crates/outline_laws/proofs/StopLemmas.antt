-- Neither an outline nor a lexical fault is gone on from.
use Rattle.std.proofs.Common.{◌≡◌, ℕ, ◌≤◌, Bool, true, false, List, [], ◌∷◌, ◌++◌, length, refl, sym, ap, subst, ◌∙◌, append_assoc, arith}
use Rattle.std.specs.Prelude.{map, Some, MatchBool, option_and_then}
use Rattle.std.proofs.lemmas.List.{append-nil, map-append}
use Rattle.lexeme_theory.specs.declared.lexeme.Lexeme.{Lexeme}
use Rattle.lexeme_theory.specs.declared.found.FaultKind.{FaultKind}
use Rattle.lexeme_theory.specs.declared.found.Found.TheVariants.{Blank as blank_found, Lexeme as lexeme_found, Fault as fault_found}
use Rattle.lexeme_theory.specs.Stands.{IsBlank, IsLexeme}
use Rattle.lexeme_theory.specs.Reading.{Placed, placed_in, AreLexemes}
use Rattle.lexeme_theory.specs.Reading.AreLexemes.{no_lexeme, blank_first, lexeme_first}
use Rattle.lexeme_theory.proofs.FoundLemmas.{found_once}
use Rattle.outline_data.specs.declared.outline.Declaration.{Declaration}
use Rattle.outline_data.specs.GroupParts.{GroupParts}
use Rattle.outline_data.specs.Parts.{OutlineParts}
use Rattle.outline_theory.specs.Spelling.{Kept, kept, spelled_outline, IsShaped}
use Rattle.outline_theory.specs.Outlines.{IsOutlineOf, BeginsSheet, IsWrongAt}
use Rattle.outline_theory.specs.Outlines.IsWrongAt.{no_lexeme as wrong_no_lexeme, no_sheet_goes_on, no_whole_sheet}
use Rattle.stage_theory.specs.Stages.{stage_after}
use Rattle.stage_theory.specs.Stages.Stage.{declarations, ended}
use Rattle.stage_theory.specs.Drafts.{RuleDraft, draft_after, first_draft}
use Rattle.stage_theory.specs.Drafts.Draft.{ruling}
use Rattle.stage_theory.proofs.RunLemmas.{whole_open, whole_draft, whole_run}
use Rattle.stage_theory.proofs.StageLemmas.{stage_append, whole_stage, whole_stages, stuck}
use Rattle.outline_laws.proofs.CompareLemmas.{none_behind}

pub begins_prefix : (ks ls : List Kept) → BeginsSheet (ks ++ ls) → BeginsSheet ks
begins_prefix ks ls b = record { outline = b.outline; shaped = b.shaped; rest = ls ++ b.rest; spelled = b.spelled ∙ append_assoc ks ls b.rest }

-- lexemes that are some, and more
pub begins_more : (lexemes rest others : List Placed) → others ≡ lexemes ++ rest → BeginsSheet (map kept others) → BeginsSheet (map kept lexemes ++ map kept rest)
begins_more lexemes rest others is b = subst (λ ks. BeginsSheet ks) (ap (λ ls. map kept ls) is ∙ map-append kept lexemes rest) b

pub no_rest : (lexemes rest others : List Placed) → others ≡ lexemes ++ rest → rest ≡ [] → others ≡ lexemes
no_rest lexemes rest others is none = is ∙ ap (λ l. lexemes ++ l) none ∙ append-nil lexemes

module _ (bytes : List ℕ) where
  wrong_blank : {ks : List Kept} {at : ℕ} {kind : FaultKind} (next : ℕ) → IsWrongAt bytes ks at kind → IsBlank bytes at next → ⊥
  wrong_blank {at = at} {kind = kind} next (wrong_no_lexeme begins) blank =
      different (found_once bytes at (fault_found kind) (blank_found next) begins blank) where
        different : fault_found kind ≡ blank_found next → ⊥
        different e = cc
  wrong_blank {at = at} next (no_sheet_goes_on {lexeme = lexeme} {next = behind} stands none) blank =
      different (found_once bytes at (lexeme_found lexeme behind) (blank_found next) stands blank) where
        different : lexeme_found lexeme behind ≡ blank_found next → ⊥
        different e = cc
  wrong_blank next (no_whole_sheet end open_sheet) blank = let inside = blank.inside in omega (arith, inside, end)

  wrong_lexeme : {ks : List Kept} {at : ℕ} {kind : FaultKind} (lexeme : Lexeme) (next : ℕ) → IsWrongAt bytes ks at kind → IsLexeme bytes at lexeme next → BeginsSheet (ks ++ kept (placed_in bytes at lexeme) ∷ []) → ⊥
  wrong_lexeme {at = at} {kind = kind} lexeme next (wrong_no_lexeme begins) stands b =
      different (found_once bytes at (fault_found kind) (lexeme_found lexeme next) begins stands) where
        different : fault_found kind ≡ lexeme_found lexeme next → ⊥
        different e = cc
  wrong_lexeme {ks = ks} {at = at} lexeme next (no_sheet_goes_on {lexeme = other} {next = behind} other_stands none) stands b =
      let P : Lexeme → Type 0 = λ l. BeginsSheet (ks ++ kept (placed_in bytes at l) ∷ []) in
      none (subst P (same (found_once bytes at (lexeme_found lexeme next) (lexeme_found other behind) stands other_stands)) b) where
        same : lexeme_found lexeme next ≡ lexeme_found other behind → lexeme ≡ other
        same e = cc
  wrong_lexeme lexeme next (no_whole_sheet end open_sheet) stands b = let inside = stands.inside in omega (arith, inside, end)

  -- no reading goes on from a fault
  pub fault_stops : {ks : List Kept} {at to : ℕ} {kind : FaultKind} {rest : List Placed} → IsWrongAt bytes ks at kind → AreLexemes bytes at rest to → BeginsSheet (ks ++ map kept rest) → (at ≡ to) × (rest ≡ [])
  fault_stops wrong (no_lexeme same) b = (same, refl)
  fault_stops wrong (blank_first {next = next} blank more) b = absurd (wrong_blank next wrong blank)
  fault_stops {ks = ks} {at = at} wrong (lexeme_first {next = next} {lexeme = lexeme} {rest = rest} stands more is) b =
      let k : Kept = kept (placed_in bytes at lexeme) in
      let P : List Kept → Type 0 = λ ls. BeginsSheet ls in
      absurd (wrong_lexeme lexeme next wrong stands (begins_prefix (ks ++ k ∷ []) (map kept rest) (subst P (ap (λ ls. ks ++ map kept ls) is ∙ sym (append_assoc ks (k ∷ []) (map kept rest))) b)))

  -- faults at one place are of one kind
  pub same_kind : {ks ls : List Kept} {at : ℕ} {kind other : FaultKind} → IsWrongAt bytes ks at kind → IsWrongAt bytes ls at other → kind ≡ other
  same_kind {at = at} {kind = kind} {other = other} (wrong_no_lexeme begins) (wrong_no_lexeme other_begins) =
      same (found_once bytes at (fault_found kind) (fault_found other) begins other_begins) where
        same : fault_found kind ≡ fault_found other → kind ≡ other
        same e = cc
  same_kind {at = at} {kind = kind} (wrong_no_lexeme begins) (no_sheet_goes_on {lexeme = lexeme} {next = next} stands none) =
      absurd (different (found_once bytes at (fault_found kind) (lexeme_found lexeme next) begins stands)) where
        different : fault_found kind ≡ lexeme_found lexeme next → ⊥
        different e = cc
  same_kind (wrong_no_lexeme begins) (no_whole_sheet end open_sheet) = let inside = begins.inside in absurd (omega (arith, inside, end))
  same_kind {at = at} {other = other} (no_sheet_goes_on {lexeme = lexeme} {next = next} stands none) (wrong_no_lexeme begins) =
      absurd (different (found_once bytes at (fault_found other) (lexeme_found lexeme next) begins stands)) where
        different : fault_found other ≡ lexeme_found lexeme next → ⊥
        different e = cc
  same_kind (no_sheet_goes_on stands none) (no_sheet_goes_on other_stands other_none) = refl
  same_kind (no_sheet_goes_on stands none) (no_whole_sheet end open_sheet) = refl
  same_kind (no_whole_sheet end open_sheet) (wrong_no_lexeme begins) = let inside = begins.inside in absurd (omega (arith, inside, end))
  same_kind (no_whole_sheet end open_sheet) (no_sheet_goes_on stands none) = refl
  same_kind (no_whole_sheet end open_sheet) (no_whole_sheet other_end other_open) = refl

-- the stage behind an outline
outline_stage : (bytes : List ℕ) (o : OutlineParts) (h : IsOutlineOf bytes o) → stage_after declarations (map kept h.lexemes) ≡ Some (whole_stage o.has_rest)
outline_stage bytes o h = ap (λ ks. stage_after declarations ks) h.spelled ∙ whole_stages o h.shaped

none_after_end : (lexemes : List Kept) (rest : List Placed) → stage_after declarations lexemes ≡ Some ended → BeginsSheet (lexemes ++ map kept rest) → rest ≡ []
none_after_end lexemes [] e b = refl
none_after_end lexemes (p ∷ ps) e b =
    absurd (stuck (lexemes ++ map kept (p ∷ ps)) (stage_append declarations lexemes (map kept (p ∷ ps)) ∙ ap (λ o. option_and_then (λ t. stage_after t (map kept (p ∷ ps))) o) e) b)

-- no reading goes on from an outline
pub outline_stops : (bytes : List ℕ) (o : OutlineParts) (h : IsOutlineOf bytes o) (to : ℕ) (rest : List Placed) → AreLexemes bytes h.to rest to → BeginsSheet (map kept h.lexemes ++ map kept rest) → rest ≡ []
outline_stops bytes o h to rest read b = by_rest o.has_rest (outline_stage bytes o h) h.ended where
  by_rest : (has_rest : Bool) → stage_after declarations (map kept h.lexemes) ≡ Some (whole_stage has_rest) → MatchBool has_rest (Unit {0}) (h.to ≡ length bytes) → rest ≡ []
  by_rest true stage end = none_after_end (map kept h.lexemes) rest stage b
  by_rest false stage end = let past : length bytes ≤ h.to = omega arith in (none_behind bytes read past).1

pub outline_begins : (bytes : List ℕ) (o : OutlineParts) (h : IsOutlineOf bytes o) → BeginsSheet (map kept h.lexemes)
outline_begins bytes o h = record { outline = o; shaped = h.shaped; rest = []; spelled = sym h.spelled ∙ sym (append-nil (map kept h.lexemes)) }

-- an outline is known by its lexemes
same_open : (b c : Bool) → whole_open b ≡ whole_open c → b ≡ c
same_open true true e = refl
same_open true false e = cc
same_open false true e = cc
same_open false false e = refl

same_parts : (ds es : List Declaration) (gs hs : List GroupParts) (p q : RuleDraft) → Some (ruling ds gs p) ≡ Some (ruling es hs q) → (ds ≡ es) × (gs ≡ hs) × (p ≡ q)
same_parts ds es gs hs p q e = (cc, cc, cc)

pub same_outline : (o p : OutlineParts) → IsShaped o → IsShaped p → spelled_outline o ≡ spelled_outline p → o ≡ p
same_outline o p shaped other_shaped e =
    let runs : Some (whole_draft o) ≡ Some (whole_draft p) = sym (whole_run o shaped) ∙ ap (λ ks. draft_after first_draft ks) e ∙ whole_run p other_shaped in
    let same = same_parts o.declarations p.declarations o.groups p.groups (whole_open o.has_rest) (whole_open p.has_rest) runs in
    let rest : o.has_rest ≡ p.has_rest = same_open o.has_rest p.has_rest same.2 in
    joined same.0 same.1 rest where
      joined : o.declarations ≡ p.declarations → o.groups ≡ p.groups → o.has_rest ≡ p.has_rest → o ≡ p
      joined d g r = ap (λ l. record { declarations = l; groups = o.groups; has_rest = o.has_rest }) d ∙ ap (λ l. record { declarations = p.declarations; groups = l; has_rest = o.has_rest }) g ∙ ap (λ b. record { declarations = p.declarations; groups = p.groups; has_rest = b }) r
