-- Bytes are accepted or refused in one way, not in both, and it is refuted that they are neither.
use Rattle.std.proofs.Common.{◌≡◌, ◌≢◌, ℕ, List, refl, sym, ap, subst, ◌∙◌, ⊎_elim}
use Rattle.scanning_theory.proofs.NotRefuted.{decided}
use Rattle.grammar_laws.proofs.RangeLemmas.{in_range}
use Rattle.lr_base.specs.IsGrammar.{IsGrammar}
use Rattle.sheet_data.specs.Sheet.{Sheet}
use Rattle.sheet_laws.proofs.ReadLemmas.{one_sheet}
use Rattle.sheet_laws.proofs.FaultLemmas.{one_first_fault, no_first_fault}
use Rattle.sheet_laws.proofs.AnswerLemmas.{some_sheet_or_fault}
use Rattle.numbering_theory.proofs.SheetGrammar.{sheet_grammar}
use Rattle.outline_data.specs.declared.fault.SheetFault.{SheetFault}
use Rattle.outline_theory.specs.Reading.{Reads}
use Rattle.grammar_faults.specs.declared.fault.GrammarFault.{GrammarFault}
use Rattle.grammar_faults.specs.declared.fault.GrammarFault.TheVariants.{NoMemory}
use Rattle.grammar_faults.specs.Building.{IsFaultOf}
use Rattle.grammar_faults.proofs.FaultLemmas.{one_fault, buildable}
use Rattle.collection_laws.proofs.FaultLemmas.{some_fault}
use Rattle.report_theory.specs.FaultTexts.{fault_text, grammar_text}
use Rattle.answer_theory.specs.Tasks.{Looking, for_scanning, for_parsing}
use Rattle.answer_theory.specs.Sheets.{HasTooManyStates, states_fault, Scans, IsFault, of_reading, of_states, IsAccepted, IsRefused, by_fault, by_grammar}

module _ (bytes : List ℕ) where
  fault_once : {fault other : SheetFault} → IsFault bytes fault → IsFault bytes other → fault ≡ other
  fault_once (of_reading {fault = fault} first) (of_reading {fault = other} other_first) = one_first_fault bytes fault other first other_first
  fault_once (of_reading {fault = fault} first) (of_states {sheet = sheet} reads many) = absurd (no_first_fault bytes sheet fault reads first)
  fault_once (of_states {sheet = sheet} reads many) (of_reading {fault = fault} first) = absurd (no_first_fault bytes sheet fault reads first)
  fault_once (of_states reads many) (of_states other_reads other_many) = refl

  scans_once : (sheet other : Sheet) → Scans bytes sheet → Scans bytes other → sheet ≡ other
  scans_once sheet other scans other_scans = one_sheet bytes sheet other scans.reads other_scans.reads

  no_fault : (sheet : Sheet) → Scans bytes sheet → {fault : SheetFault} → IsFault bytes fault → ⊥
  no_fault sheet scans (of_reading {fault = fault} first) = no_first_fault bytes sheet fault scans.reads first
  no_fault sheet scans (of_states {sheet = other} reads many) = scans.few (subst HasTooManyStates (one_sheet bytes other sheet reads scans.reads) many)

  -- it is refuted that the bytes are not scanned and have no fault
  some_scans_or_fault : ((sheet : Sheet) → ¬ (Scans bytes sheet)) → ((fault : SheetFault) → ¬ (IsFault bytes fault)) → ⊥
  some_scans_or_fault unscanned faultless = some_sheet_or_fault bytes by_states (λ fault first. faultless fault (of_reading first)) where
    by_states : (sheet : Sheet) → ¬ (Reads bytes sheet)
    by_states sheet reads = decided (HasTooManyStates sheet) (λ d. ⊎_elim (λ many. faultless states_fault (of_states reads many)) (λ few. unscanned sheet (record { reads = reads; few = few })) d)

  -- what is said of the fault of a sheet's grammar
  grammar_said : (sheet other : Sheet) (fault other_fault : GrammarFault) → Scans bytes sheet → Scans bytes other → IsFaultOf sheet.grammar fault → IsFaultOf other.grammar other_fault → fault ≢ NoMemory → other_fault ≢ NoMemory → grammar_text sheet fault ≡ grammar_text other other_fault
  grammar_said sheet other fault other_fault scans other_scans of other_of found other_found =
      let sheets : other ≡ sheet = scans_once other sheet other_scans scans in
      let moved : IsFaultOf sheet.grammar other_fault = subst (λ (s : Sheet). IsFaultOf s.grammar other_fault) sheets other_of in
      ap (grammar_text sheet) (one_fault sheet.grammar fault other_fault of moved found other_found) ∙ ap (λ s. grammar_text s other_fault) (sym sheets)

  module _ (looking : Looking) where
    pub accepted_once : (sheet other : Sheet) → IsAccepted looking bytes sheet → IsAccepted looking bytes other → sheet ≡ other
    accepted_once sheet other accepted other_accepted = scans_once sheet other accepted.scans other_accepted.scans

    pub said_once : {said other : List ℕ} → IsRefused looking bytes said → IsRefused looking bytes other → said ≡ other
    said_once (by_fault fault found is) (by_fault other other_found other_is) = is ∙ ap fault_text (fault_once found other_found) ∙ sym other_is
    said_once (by_fault fault found is) (by_grammar {sheet = sheet} other looks scans of kept other_is) = absurd (no_fault sheet scans found)
    said_once (by_grammar {sheet = sheet} fault looks scans of kept is) (by_fault other other_found other_is) = absurd (no_fault sheet scans other_found)
    said_once (by_grammar {sheet = sheet} fault looks scans of kept is) (by_grammar {sheet = other_sheet} other other_looks other_scans other_of other_kept other_is) =
        is ∙ grammar_said sheet other_sheet fault other scans other_scans of other_of kept other_kept ∙ sym other_is

  pub not_refused : (looking : Looking) {said : List ℕ} (sheet : Sheet) → IsAccepted looking bytes sheet → ¬ (IsRefused looking bytes said)
  not_refused looking sheet accepted (by_fault fault found is) = no_fault sheet accepted.scans found
  not_refused for_scanning sheet accepted (by_grammar fault looks scans of kept is) = cc
  not_refused for_parsing sheet accepted (by_grammar {sheet = other} fault looks scans of kept is) =
      let sheets : other ≡ sheet = scans_once other sheet scans accepted.scans in
      kept (buildable sheet.grammar fault accepted.suits (subst (λ (s : Sheet). IsFaultOf s.grammar fault) sheets of))

  -- a sheet that is scanned has a grammar
  pub grammar_of : (sheet : Sheet) → Scans bytes sheet → IsGrammar sheet.grammar
  grammar_of sheet scans =
      let reads = scans.reads in
      sheet_grammar reads.outline sheet reads.faultless reads.has.of.shaped reads.says reads.within

  -- of a sheet that is scanned it is refuted that its grammar is neither what the task needs nor faulty
  suited : (looking : Looking) (sheet : Sheet) → Scans bytes sheet → ¬ (IsAccepted looking bytes sheet) → ((said : List ℕ) → ¬ (IsRefused looking bytes said)) → ⊥
  suited for_scanning sheet scans unaccepted unrefused = unaccepted (record { scans = scans; suits = tt })
  suited for_parsing sheet scans unaccepted unrefused =
      some_fault sheet.grammar (in_range sheet.grammar (grammar_of sheet scans)) (λ fault kept of. unrefused (grammar_text sheet fault) (by_grammar fault refl scans of kept refl)) (λ is. unaccepted (record { scans = scans; suits = is }))

  -- it is refuted that the bytes are neither accepted nor refused
  pub some_accepted_or_refused : (looking : Looking) → ((sheet : Sheet) → ¬ (IsAccepted looking bytes sheet)) → ((said : List ℕ) → ¬ (IsRefused looking bytes said)) → ⊥
  some_accepted_or_refused looking unaccepted unrefused =
      some_scans_or_fault (λ sheet scans. suited looking sheet scans (unaccepted sheet) unrefused) (λ fault found. unrefused (fault_text fault) (by_fault fault found refl))
