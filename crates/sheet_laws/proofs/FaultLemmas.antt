-- Bytes have one first fault at most, and none where they are a sheet.
use Rattle.std.proofs.Common.{◌≡◌, ◌≢◌, ℕ, ◌+◌, ◌<◌, ◌≤◌, List, [], length, refl, sym, ap, subst, ◌∙◌, arith}
use Rattle.std.specs.Prelude.{None, Some}
use Rattle.std.proofs.lemmas.Option.{none-some, same_Some}
use Rattle.lexeme_theory.specs.declared.found.FaultKind.{FaultKind}
use Rattle.lexeme_theory.specs.declared.found.FaultKind.TheVariants.{BadByte as bad_byte_kind, Syntax as syntax_kind}
use Rattle.sheet_data.specs.Sheet.{Sheet}
use Rattle.outline_data.specs.declared.fault.LimitKind.TheVariants.{SheetBytes}
use Rattle.outline_data.specs.declared.fault.SheetFault.{SheetFault}
use Rattle.outline_data.specs.declared.fault.SheetFault.TheVariants.{BadByte, Syntax, NoRules, Limit}
use Rattle.outline_data.specs.Parts.{OutlineParts}
use Rattle.lr_base.specs.declared.limits.TheConstants.{SHEET_BYTES}
use Rattle.outline_theory.specs.Outlines.{IsLexicalFault}
use Rattle.outline_theory.specs.LineFaults.{IsFirstLineFault}
use Rattle.outline_theory.specs.Numbering.{IsSheetOf}
use Rattle.outline_theory.specs.Limits.{Measure, measures, first_passed}
use Rattle.outline_theory.specs.Reading.{HasOutline, IsFaultless, Reads, IsFirstFault}
use Rattle.outline_theory.specs.Reading.IsFirstFault.{too_long, bad_byte, syntax, no_rules, on_line, limit}
use Rattle.outline_laws.proofs.ApartLemmas.{one_outline, one_fault, no_fault}
use Rattle.sheet_laws.proofs.LineFaults.{one_line_fault}
use Rattle.sheet_laws.proofs.SheetLemmas.{sheet_once}

abbrev lexical_fault : FaultKind → ℕ → SheetFault
lexical_fault bad_byte_kind line = BadByte line
lexical_fault syntax_kind line = Syntax line

-- the first fault of an outline
data OutlineFault (o : OutlineParts) (fault : SheetFault) : Type 0 where
  without_rules : o.groups ≡ [] → fault ≡ NoRules → OutlineFault o fault
  first_on_line : o.groups ≢ [] → IsFirstLineFault o fault → OutlineFault o fault
  first_limit : {sheet : Sheet} {measure : Measure} → IsFaultless o → IsSheetOf o sheet → first_passed (measures sheet) ≡ Some measure → fault ≡ Limit measure.kind measure.count → OutlineFault o fault

-- what the first fault of bytes comes from
data Cause (bytes : List ℕ) (fault : SheetFault) : Type 0 where
  by_size : SHEET_BYTES < length bytes → fault ≡ Limit SheetBytes (SHEET_BYTES + 1) → Cause bytes fault
  by_lexemes : (kind : FaultKind) (line : ℕ) → length bytes ≤ SHEET_BYTES → IsLexicalFault bytes kind line → fault ≡ lexical_fault kind line → Cause bytes fault
  by_outline : (o : OutlineParts) → HasOutline bytes o → OutlineFault o fault → Cause bytes fault

cause : (bytes : List ℕ) {fault : SheetFault} → IsFirstFault bytes fault → Cause bytes fault
cause bytes (too_long size) = Cause.by_size size refl
cause bytes (bad_byte {line = line} size h) = Cause.by_lexemes bad_byte_kind line size h refl
cause bytes (syntax {line = line} size h) = Cause.by_lexemes syntax_kind line size h refl
cause bytes (no_rules {outline = o} h none) = Cause.by_outline o h (OutlineFault.without_rules none refl)
cause bytes (on_line {outline = o} h some first) = Cause.by_outline o h (OutlineFault.first_on_line some first)
cause bytes (limit {outline = o} h faultless is passed) = Cause.by_outline o h (OutlineFault.first_limit faultless is passed refl)

-- an outline has one first fault
outline_once : (o : OutlineParts) (f g : SheetFault) → OutlineFault o f → OutlineFault o g → f ≡ g
outline_once o f g (OutlineFault.without_rules none is) (OutlineFault.without_rules other_none other_is) = is ∙ sym other_is
outline_once o f g (OutlineFault.without_rules none is) (OutlineFault.first_on_line some first) = absurd (some none)
outline_once o f g (OutlineFault.without_rules none is) (OutlineFault.first_limit faultless says passed other_is) = absurd (faultless.rules none)
outline_once o f g (OutlineFault.first_on_line some first) (OutlineFault.without_rules none is) = absurd (some none)
outline_once o f g (OutlineFault.first_on_line some first) (OutlineFault.first_on_line other_some other) = one_line_fault o f g first other
outline_once o f g (OutlineFault.first_on_line some first) (OutlineFault.first_limit faultless says passed is) = absurd (faultless.none f first.has)
outline_once o f g (OutlineFault.first_limit faultless says passed is) (OutlineFault.without_rules none other_is) = absurd (faultless.rules none)
outline_once o f g (OutlineFault.first_limit faultless says passed is) (OutlineFault.first_on_line some first) = absurd (faultless.none g first.has)
outline_once o f g (OutlineFault.first_limit {sheet = sheet} {measure = measure} faultless says passed is) (OutlineFault.first_limit {sheet = other_sheet} {measure = other} other_faultless other_says other_passed other_is) =
    let same : sheet ≡ other_sheet = sheet_once o sheet other_sheet says other_says in
    let measured : measure ≡ other = same_Some measure other (sym passed ∙ ap (λ s. first_passed (measures s)) same ∙ other_passed) in
    is ∙ ap (λ (m : Measure). Limit m.kind m.count) measured ∙ sym other_is

module _ (bytes : List ℕ) where
  long_apart : SHEET_BYTES < length bytes → length bytes ≤ SHEET_BYTES → ⊥
  long_apart long short = omega (arith, long, short)

  cause_once : (f g : SheetFault) → Cause bytes f → Cause bytes g → f ≡ g
  cause_once f g (Cause.by_size long is) (Cause.by_size other_long other_is) = is ∙ sym other_is
  cause_once f g (Cause.by_size long is) (Cause.by_lexemes kind line size h other_is) = absurd (long_apart long size)
  cause_once f g (Cause.by_size long is) (Cause.by_outline o has h) = absurd (long_apart long has.size)
  cause_once f g (Cause.by_lexemes kind line size h is) (Cause.by_size long other_is) = absurd (long_apart long size)
  cause_once f g (Cause.by_lexemes kind line size h is) (Cause.by_lexemes other other_line other_size k other_is) =
      let same = one_fault bytes kind other line other_line h k in
      is ∙ ap (λ l. lexical_fault l line) same.0 ∙ ap (λ n. lexical_fault other n) same.1 ∙ sym other_is
  cause_once f g (Cause.by_lexemes kind line size h is) (Cause.by_outline o has k) = absurd (no_fault bytes o kind line has.of h)
  cause_once f g (Cause.by_outline o has h) (Cause.by_size long is) = absurd (long_apart long has.size)
  cause_once f g (Cause.by_outline o has h) (Cause.by_lexemes kind line size k is) = absurd (no_fault bytes o kind line has.of k)
  cause_once f g (Cause.by_outline o has h) (Cause.by_outline p other_has k) =
      let same : p ≡ o = one_outline bytes p o other_has.of has.of in
      outline_once o f g h (subst (λ q. OutlineFault q g) same k)

  pub one_first_fault : (one other : SheetFault) → IsFirstFault bytes one → IsFirstFault bytes other → one ≡ other
  one_first_fault one other h k = cause_once one other (cause bytes h) (cause bytes k)

  -- a sheet has no fault
  outline_sound : (o : OutlineParts) (sheet : Sheet) (f : SheetFault) → IsFaultless o → IsSheetOf o sheet → first_passed (measures sheet) ≡ None → OutlineFault o f → ⊥
  outline_sound o sheet f faultless says within (OutlineFault.without_rules none is) = faultless.rules none
  outline_sound o sheet f faultless says within (OutlineFault.first_on_line some first) = faultless.none f first.has
  outline_sound o sheet f faultless says within (OutlineFault.first_limit {sheet = other} {measure = measure} other_faultless other_says passed is) =
      let same : sheet ≡ other = sheet_once o sheet other says other_says in
      none-some measure (sym within ∙ ap (λ s. first_passed (measures s)) same ∙ passed)

  sound : (sheet : Sheet) (f : SheetFault) → Reads bytes sheet → Cause bytes f → ⊥
  sound sheet f h (Cause.by_size long is) = long_apart long h.has.size
  sound sheet f h (Cause.by_lexemes kind line size k is) = no_fault bytes h.outline kind line h.has.of k
  sound sheet f h (Cause.by_outline o has k) =
      let same : o ≡ h.outline = one_outline bytes o h.outline has.of h.has.of in
      outline_sound h.outline sheet f h.faultless h.says h.within (subst (λ q. OutlineFault q f) same k)

  pub no_first_fault : (sheet : Sheet) (fault : SheetFault) → Reads bytes sheet → IsFirstFault bytes fault → ⊥
  no_first_fault sheet fault h k = sound sheet fault h (cause bytes k)
