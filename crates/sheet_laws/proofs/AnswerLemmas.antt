-- It is refuted that bytes are no sheet and have no first fault.
use Rattle.std.proofs.Common.{◌≡◌, ◌≢◌, ℕ, ◌≤◌, List, [], ◌∷◌, length, refl, inl, inr, ⊎_elim, arith}
use Rattle.std.specs.Prelude.{Option, None, Some, ◌⊎◌}
use Rattle.std.proofs.lemmas.Bool.{cases_lt}
use Rattle.lexeme_theory.specs.declared.found.FaultKind.{FaultKind}
use Rattle.lexeme_theory.specs.declared.found.FaultKind.TheVariants.{BadByte as bad_byte_kind, Syntax as syntax_kind}
use Rattle.sheet_data.specs.Sheet.{Sheet}
use Rattle.outline_data.specs.declared.fault.SheetFault.{SheetFault}
use Rattle.outline_data.specs.GroupParts.{GroupParts}
use Rattle.outline_data.specs.Parts.{OutlineParts}
use Rattle.lr_base.specs.declared.limits.TheConstants.{SHEET_BYTES}
use Rattle.outline_theory.specs.Outlines.{IsLexicalFault}
use Rattle.outline_theory.specs.Numbering.{IsSheetOf}
use Rattle.outline_theory.specs.Limits.{Measure, measures, first_passed}
use Rattle.outline_theory.specs.Reading.{HasOutline, IsFaultless, Reads, IsFirstFault}
use Rattle.outline_theory.specs.Reading.IsFirstFault.{too_long, bad_byte, syntax, no_rules, on_line, limit}
use Rattle.outline_laws.specs.Laws.{HasSomeOutline, HasLexicalFault}
use Rattle.outline_laws.proofs.AnswerLemmas.{some_answer}
use Rattle.sheet_laws.proofs.LineFaults.{FirstOrNone, first_or_none}
use Rattle.sheet_laws.proofs.SheetLemmas.{some_sheet}

module _ (bytes : List ℕ) (unread : (sheet : Sheet) → Reads bytes sheet → ⊥) (faultless : (fault : SheetFault) → IsFirstFault bytes fault → ⊥) where
  by_limits : (o : OutlineParts) (sheet : Sheet) (passed : Option Measure) → HasOutline bytes o → IsFaultless o → IsSheetOf o sheet → first_passed (measures sheet) ≡ passed → ⊥
  by_limits o sheet None has none says e = unread sheet (record { outline = o; has = has; faultless = none; says = says; within = e })
  by_limits o sheet (Some measure) has none says e = faultless _ (limit has none says e)

  by_lines : (o : OutlineParts) → HasOutline bytes o → o.groups ≢ [] → FirstOrNone o → ⊥
  by_lines o has some (inl first) = faultless first.0 (on_line has some first.1)
  by_lines o has some (inr none) =
      let clean : IsFaultless o = record { rules = some; none = none } in
      some_sheet o clean (λ sheet says. by_limits o sheet (first_passed (measures sheet)) has clean says refl)

  by_rules : (o : OutlineParts) (groups : List GroupParts) → HasOutline bytes o → o.groups ≡ groups → ⊥
  by_rules o [] has e = faultless _ (no_rules has e)
  by_rules o (g ∷ groups) has e = first_or_none o (λ found. by_lines o has (λ none. nonempty (e, none)) found) where
    nonempty : (o.groups ≡ g ∷ groups) × (o.groups ≡ []) → ⊥
    nonempty (is, none) = cc

  by_kind : (kind : FaultKind) (line : ℕ) → length bytes ≤ SHEET_BYTES → IsLexicalFault bytes kind line → ⊥
  by_kind bad_byte_kind line size h = faultless _ (bad_byte size h)
  by_kind syntax_kind line size h = faultless _ (syntax size h)

  by_answer : length bytes ≤ SHEET_BYTES → HasSomeOutline bytes ⊎ HasLexicalFault bytes → ⊥
  by_answer size (inl h) = by_rules h.0 h.0.groups (record { size = size; of = h.1 }) refl
  by_answer size (inr h) = by_kind h.0 h.1 size h.2

  pub some_sheet_or_fault : ⊥
  some_sheet_or_fault = ⊎_elim (λ long. faultless _ (too_long long)) (λ short. by_answer (omega (arith, short)) (some_answer bytes)) (cases_lt SHEET_BYTES (length bytes))
