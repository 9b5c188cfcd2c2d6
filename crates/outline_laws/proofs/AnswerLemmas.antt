-- Bytes are read to an outline or to a fault.
use Rattle.std.proofs.Common.{◌≡◌, ◌≢◌, ◌⊎◌, inl, inr, ⊎_elim, ℕ, zero, suc, ◌+◌, ◌<◌, ◌≤◌, Bool, true, false, List, length, refl, sym, ap, subst, ◌∙◌, arith}
use Rattle.std.specs.Prelude.{Option, None, Some, MatchBool}
use Rattle.std.proofs.lemmas.Bool.{cases_lt}
use Rattle.lexeme_theory.specs.declared.lexeme.Lexeme.{Lexeme}
use Rattle.lexeme_theory.specs.declared.found.FaultKind.{FaultKind}
use Rattle.lexeme_theory.specs.declared.found.FaultKind.TheVariants.{Syntax}
use Rattle.lexeme_theory.specs.declared.found.Found.{Found}
use Rattle.lexeme_theory.specs.declared.found.Found.TheVariants.{Blank as blank_found, Lexeme as lexeme_found, Fault as fault_found}
use Rattle.lexeme_theory.specs.Lines.{line_of}
use Rattle.lexeme_theory.specs.Stands.{IsFound, IsLexeme}
use Rattle.lexeme_theory.specs.Reading.AreBlanks.{no_blank, one_blank}
use Rattle.lexeme_theory.proofs.FoundLemmas.{found_some}
use Rattle.lexeme_theory.proofs.EndLemmas.{found_ends}
use Rattle.outline_data.specs.Parts.{OutlineParts}
use Rattle.outline_theory.specs.Outlines.{IsLexicalFault}
use Rattle.outline_theory.specs.Outlines.IsWrongAt.{no_lexeme as wrong_no_lexeme}
use Rattle.stage_theory.specs.Stages.Stage.{rules, ended}
use Rattle.stage_theory.specs.Drafts.{Draft, stage_of, next_draft, first_draft}
use Rattle.stage_theory.specs.Drafts.DeclarationDraft.{no_declaration, token_begun, token_named, skip_begun, start_begun}
use Rattle.stage_theory.specs.Drafts.RuleDraft.{no_rule, left_read, side_open, template_open, side_behind, mark_begun, rules_ended}
use Rattle.stage_theory.specs.Drafts.Draft.{declaring, ruling}
use Rattle.stage_theory.proofs.RunLemmas.{whole_draft}
use Rattle.stage_theory.proofs.ReadLemmas.{IsReadSoFar, so_far_none, so_far_blanks, so_far_lexeme, wrong_fault, refused_fault, end_fault, outline_of}
use Rattle.outline_laws.specs.Laws.{HasSomeOutline, HasLexicalFault}

abbrev pub HasAnswer : List ℕ → Type 0
HasAnswer bytes = HasSomeOutline bytes ⊎ HasLexicalFault bytes

-- the draft of a whole outline, or one that is neither between two left sides nor ended
abbrev pub IsOpen : Draft → Type 0
IsOpen draft = (stage_of draft ≢ rules) × (stage_of draft ≢ ended)

whole_or_open : (draft : Draft) → ((o : OutlineParts) × (draft ≡ whole_draft o)) ⊎ IsOpen draft
whole_or_open (ruling ds gs no_rule) = inl (record { declarations = ds; groups = gs; has_rest = false }, refl)
whole_or_open (ruling ds gs rules_ended) = inl (record { declarations = ds; groups = gs; has_rest = true }, refl)
whole_or_open (declaring ds no_declaration) = inr (λ e. (cc), λ e. (cc))
whole_or_open (declaring ds token_begun) = inr (λ e. (cc), λ e. (cc))
whole_or_open (declaring ds (token_named name)) = inr (λ e. (cc), λ e. (cc))
whole_or_open (declaring ds skip_begun) = inr (λ e. (cc), λ e. (cc))
whole_or_open (declaring ds (start_begun line)) = inr (λ e. (cc), λ e. (cc))
whole_or_open (ruling ds gs (left_read left)) = inr (λ e. (cc), λ e. (cc))
whole_or_open (ruling ds gs (side_open g right)) = inr (λ e. (cc), λ e. (cc))
whole_or_open (ruling ds gs (template_open g right parts)) = inr (λ e. (cc), λ e. (cc))
whole_or_open (ruling ds gs (side_behind g a)) = inr (λ e. (cc), λ e. (cc))
whole_or_open (ruling ds gs (mark_begun g a)) = inr (λ e. (cc), λ e. (cc))

-- the draft of an outline that a second `%%` ended, or one that isn't ended
abbrev pub IsEndedDraft : Draft → Type 0
IsEndedDraft draft = (o : OutlineParts) × (draft ≡ whole_draft o) × (o.has_rest ≡ true)

open_not_ended : (draft : Draft) → IsEndedDraft draft ⊎ (stage_of draft ≢ ended)
open_not_ended draft = ⊎_elim (λ w. by_rest w.0 w.0.has_rest refl w.1) (λ o. inr o.1) (whole_or_open draft) where
  by_rest : (o : OutlineParts) (b : Bool) → o.has_rest ≡ b → draft ≡ whole_draft o → IsEndedDraft draft ⊎ (stage_of draft ≢ ended)
  by_rest o true e is = inl (o, is, e)
  by_rest o false e is = inr (λ at. (rest_apart (sym at ∙ ap stage_of is ∙ ap (λ b. stage_of (whole_draft (record { declarations = o.declarations; groups = o.groups; has_rest = b }))) e))) where
    rest_apart : ended ≡ rules → ⊥
    rest_apart e = cc

module _ (bytes : List ℕ) where
  outline_answer : (at : ℕ) (draft : Draft) (o : OutlineParts) → IsReadSoFar bytes at draft → draft ≡ whole_draft o → MatchBool o.has_rest (Unit {0}) (at ≡ length bytes) → HasAnswer bytes
  outline_answer at draft o h is end = inl (o, outline_of bytes at draft h o is end)

  fault_answer : (at : ℕ) (kind : FaultKind) → IsLexicalFault bytes kind (line_of bytes at) → HasAnswer bytes
  fault_answer at kind fault = inr (kind, line_of bytes at, fault)

  -- at the end of the bytes
  end_answer : (at : ℕ) (draft : Draft) → IsReadSoFar bytes at draft → at ≡ length bytes → HasAnswer bytes
  end_answer at draft h end = ⊎_elim (λ w. outline_answer at draft w.0 h w.1 (at_end w.0.has_rest)) (λ o. fault_answer at Syntax (end_fault bytes at draft h o.0 o.1 end)) (whole_or_open draft) where
    at_end : (b : Bool) → MatchBool b (Unit {0}) (at ≡ length bytes)
    at_end true = tt
    at_end false = end

  -- the places further on have an answer
  abbrev pub Later : ℕ → Type 0
  Later at = (next : ℕ) (draft : Draft) → at < next → next ≤ length bytes → IsReadSoFar bytes next draft → HasAnswer bytes

  lexeme_answer : (at next : ℕ) (draft : Draft) (lexeme : Lexeme) (option : Option Draft) → IsReadSoFar bytes at draft → stage_of draft ≢ ended → IsLexeme bytes at lexeme next → next_draft draft lexeme (line_of bytes at) ≡ option → Later at → HasAnswer bytes
  lexeme_answer at next draft lexeme None h open_sheet stands e later = fault_answer at Syntax (refused_fault bytes at draft h next lexeme open_sheet stands e)
  lexeme_answer at next draft lexeme (Some more) h open_sheet stands e later =
      let ends = found_ends bytes at (lexeme_found lexeme next) stands in later next more ends.0 ends.1 (so_far_lexeme bytes at draft h next more lexeme stands e)

  found_answer : (at : ℕ) (draft : Draft) (found : Found) → IsReadSoFar bytes at draft → stage_of draft ≢ ended → IsFound bytes at found → Later at → HasAnswer bytes
  found_answer at draft (blank_found next) h open_sheet is later = let ends = found_ends bytes at (blank_found next) is in later next draft ends.0 ends.1 (so_far_blanks bytes at next draft h (one_blank is (no_blank refl)))
  found_answer at draft (fault_found kind) h open_sheet is later = fault_answer at kind (wrong_fault bytes at draft h kind open_sheet (wrong_no_lexeme is))
  found_answer at draft (lexeme_found lexeme next) h open_sheet is later = lexeme_answer at next draft lexeme (next_draft draft lexeme (line_of bytes at)) h open_sheet is refl later

  ended_answer : (at : ℕ) (draft : Draft) → IsReadSoFar bytes at draft → IsEndedDraft draft → HasAnswer bytes
  ended_answer at draft h w = outline_answer at draft w.0 h w.1 (subst (λ b. MatchBool b (Unit {0}) (at ≡ length bytes)) (sym w.2) tt)

  step_answer : (at : ℕ) (draft : Draft) → IsReadSoFar bytes at draft → at < length bytes → Later at → HasAnswer bytes
  step_answer at draft h inside later =
      let some = found_some bytes at inside in
      ⊎_elim (λ w. ended_answer at draft h w) (λ open_sheet. found_answer at draft some.0 h open_sheet some.1 later) (open_not_ended draft)

  answer_from : (fuel at : ℕ) (draft : Draft) → at ≤ length bytes → IsReadSoFar bytes at draft → length bytes ≤ at + fuel → HasAnswer bytes
  answer_from zero at draft inside h enough = end_answer at draft h (omega (arith, inside, enough))
  answer_from (suc fuel) at draft inside h enough =
      ⊎_elim (λ before. step_answer at draft h before (λ next more on within reached. answer_from fuel next more within reached (omega (arith, on, enough)))) (λ past. end_answer at draft h (omega (arith, inside, past))) (cases_lt at (length bytes))

  pub some_answer : HasAnswer bytes
  some_answer = answer_from (length bytes) 0 first_draft (omega arith) (so_far_none bytes) (omega arith)
