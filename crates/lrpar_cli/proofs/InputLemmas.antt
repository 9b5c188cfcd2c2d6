-- What was read for a command, and why a reading stopped.
use Rattle.std.proofs.Common.{◌≡◌, ◌≢◌, ℕ, ◌+◌, ◌<◌, List, length, Option, Some, None, IfSome, Result, Ok, Err, IfOk, IfErr, refl, sym, ap, subst, arith, length-append, inl, inr}
use Rattle.std.specs.Io.KnownBytes.{Consumes}
use Rattle.lr_base.specs.declared.limits.TheConstants.{SHEET_BYTES}
use Rattle.lr_base.specs.Outside.{ShelfSeen}
use Rattle.lr_base.specs.Reading.{IsThere, StandsUnder, IsTooLong}
use Rattle.outline_data.specs.declared.fault.LimitKind.TheVariants.{SheetBytes}
use Rattle.outline_data.specs.declared.fault.SheetFault.{SheetFault}
use Rattle.outline_data.specs.declared.fault.SheetFault.TheVariants.{Limit, NoMemory as no_memory}
use Rattle.sheet_data.specs.Sheet.{Sheet}
use Rattle.outline_theory.specs.Reading.{Reads, IsFirstFault}
use Rattle.sheet_reader.specs.Faults.{IsReadFault}
use Rattle.report_theory.specs.FaultTexts.{fault_text}
use Rattle.answer_theory.specs.declared.status.Status.TheVariants.{SheetRefused}
use Rattle.answer_theory.specs.Sheets.{HasTooManyStates, states_fault, Scans, of_reading, of_states, by_fault, by_grammar, IsRefused}
use Rattle.answer_theory.specs.Tasks.{Looking, Input, for_scanning, for_parsing}
use Rattle.lrpar_cli.specs.declared.stop.Stop.{Stop}
use Rattle.lrpar_cli.specs.declared.stop.Stop.TheVariants.{Due, Unread, Unwritten, Spent}
use Rattle.lrpar_cli.specs.declared.inputs.Scanned.{Scanned}
use Rattle.lrpar_cli.specs.Inputs.{HasSheet, IsSheetStop, IsInputStop, IsScanStop, IsStatesStop, IsGrammarStop}
use Rattle.lrpar_cli.specs.Stops.{IsDueStop}

-- some bytes stand there, and they are more than the limit
pub record IsOver (shelf : ShelfSeen) (name : List ℕ) (limit : ℕ) : Type 0 where
  pub bytes : List ℕ
  pub stand : StandsUnder shelf name bytes
  pub over : limit < length bytes

over_limit : (shelf : ShelfSeen) (name : List ℕ) (stood left : Option (List ℕ)) (limit : ℕ) (front : List ℕ) → shelf.stands name ≡ stood → IsThere shelf name → length front ≡ limit + 1 → Consumes stood left front → IsOver shelf name limit
over_limit shelf name None left limit front same there e c = record { bytes = front; stand = record { there = there; is = subst (λ stood. IfSome stood (λ standing. front ≡ standing)) (sym same) tt }; over = omega (arith, e) }
over_limit shelf name (Some all) None limit front same there e c = absurd c
over_limit shelf name (Some all) (Some rest) limit front same there e c = record {
  bytes = all;
  stand = record { there = there; is = subst (λ stood. IfSome stood (λ standing. all ≡ standing)) (sym same) refl };
  over = omega (arith, e, ap length c, length-append front rest);
}

pub over : (before after : ShelfSeen) (name : List ℕ) (limit : ℕ) → IsTooLong before after name limit → IsOver before name limit
over before after name limit h = over_limit before name (before.stands name) after.left limit h.front refl h.there h.over h.consumed

-- a sheet that is too long is refused
pub long_sheet : (looking : Looking) (before after : ShelfSeen) (name : List ℕ) (stop : Stop) → IsTooLong before after name SHEET_BYTES → IsDueStop SheetRefused (fault_text (Limit SheetBytes (SHEET_BYTES + 1))) stop → IsSheetStop looking before name stop
long_sheet looking before after name stop h (inl due) =
    let o = over before after name SHEET_BYTES h in
    subst (IsSheetStop looking before name) (sym due) (refl, record { bytes = o.bytes; stand = o.stand; refused = by_fault (Limit SheetBytes (SHEET_BYTES + 1)) (of_reading (IsFirstFault.too_long o.over)) refl })
long_sheet looking before after name stop h (inr spent) = subst (IsSheetStop looking before name) (sym spent) tt

-- an input that is too long stops the command
pub long_input : (input : Input) (before after : ShelfSeen) (name : List ℕ) (stop : Stop) → IsTooLong before after name input.most → IsDueStop input.status input.said stop → IsInputStop input before name stop
long_input input before after name stop h (inl due) =
    let o = over before after name input.most h in
    subst (IsInputStop input before name) (sym due) (refl, refl, record { bytes = o.bytes; stand = o.stand; long = o.over })
long_input input before after name stop h (inr spent) = subst (IsInputStop input before name) (sym spent) tt

-- the refusal of bytes that were read
pub refused_bytes : (looking : Looking) (shelf : ShelfSeen) (name bytes : List ℕ) (stop : Stop) → StandsUnder shelf name bytes → IsScanStop bytes stop → IsSheetStop looking shelf name stop
refused_bytes looking shelf name bytes (Due status said) stand is = (is.0, record { bytes = bytes; stand = stand; refused = is.1 looking })
refused_bytes looking shelf name bytes Unread stand is = absurd is
refused_bytes looking shelf name bytes Unwritten stand is = is
refused_bytes looking shelf name bytes Spent stand is = tt

pub refused_so : (looking : Looking) (shelf : ShelfSeen) (name bytes : List ℕ) (result : Result Scanned Stop) → StandsUnder shelf name bytes → IfErr result (λ stop. IsScanStop bytes stop) → IfErr result (λ stop. IsSheetStop looking shelf name stop)
refused_so looking shelf name bytes (Ok scanned) stand is = tt
refused_so looking shelf name bytes (Err stop) stand is = refused_bytes looking shelf name bytes stop stand is

-- the refusal of bytes with a fault of their reading
pub fault_stop : (bytes : List ℕ) (fault : SheetFault) (stop : Stop) → fault ≢ no_memory → IsReadFault bytes fault → IsDueStop SheetRefused (fault_text fault) stop → IsScanStop bytes stop
fault_stop bytes fault stop some (inl e) is = absurd (some e)
fault_stop bytes fault stop some (inr first) (inl due) = subst (IsScanStop bytes) (sym due) (refl, λ looking. by_fault fault (of_reading first) refl)
fault_stop bytes fault stop some (inr first) (inr spent) = subst (IsScanStop bytes) (sym spent) tt

scan_stop : (bytes : List ℕ) (sheet : Sheet) (stop : Stop) → Reads bytes sheet → IsStatesStop sheet stop → IsScanStop bytes stop
scan_stop bytes sheet (Due status said) reads is = (is.0, λ looking. by_fault states_fault (of_states reads is.1) is.2)
scan_stop bytes sheet Unread reads is = is
scan_stop bytes sheet Unwritten reads is = is
scan_stop bytes sheet Spent reads is = tt

-- the refusal of what was read, where its patterns have too many states
pub scan_refused : (bytes : List ℕ) (sheet : Sheet) (result : Result Scanned Stop) → Reads bytes sheet → IfErr result (λ stop. IsStatesStop sheet stop) → IfErr result (λ stop. IsScanStop bytes stop)
scan_refused bytes sheet (Ok scanned) reads is = tt
scan_refused bytes sheet (Err stop) reads is = scan_stop bytes sheet stop reads is

-- a sheet that was read is scanned
pub scans_so : (bytes : List ℕ) (sheet : Sheet) (result : Result Scanned Stop) → Reads bytes sheet → IfOk result (λ s. s.sheet ≡ sheet) → IfOk result (λ _. ¬ (HasTooManyStates sheet)) → IfOk result (λ s. Scans bytes s.sheet)
scans_so bytes sheet (Ok scanned) reads same few = record { reads = subst (Reads bytes) (sym same) reads; few = λ many. few (subst HasTooManyStates same many) }
scans_so bytes sheet (Err stop) reads same few = tt

-- where the sheet is refused by what it is scanned for, it is refused by what it is parsed for
pub parsing_stop : (shelf : ShelfSeen) (name : List ℕ) (stop : Stop) → IsSheetStop for_scanning shelf name stop → IsSheetStop for_parsing shelf name stop
parsing_stop shelf name (Due status said) is = (is.0, record { bytes = is.1.bytes; stand = is.1.stand; refused = of_scanning is.1.refused }) where
  of_scanning : {bytes : List ℕ} → IsRefused for_scanning bytes said → IsRefused for_parsing bytes said
  of_scanning (by_fault fault found e) = by_fault fault found e
  of_scanning (by_grammar fault looks scans of kept e) = cc
parsing_stop shelf name Unread is = is
parsing_stop shelf name Unwritten is = is
parsing_stop shelf name Spent is = is

-- a grammar without tables refuses its sheet
pub grammar_stop : (shelf : ShelfSeen) (name : List ℕ) (sheet : Sheet) (stop : Stop) → HasSheet for_scanning shelf name sheet → IsGrammarStop sheet stop → IsSheetStop for_parsing shelf name stop
grammar_stop shelf name sheet (Due status said) has is = (is.0, record { bytes = has.bytes; stand = has.stand; refused = by_grammar is.1.fault refl has.accepted.scans is.1.of is.1.found is.1.is })
grammar_stop shelf name sheet Unread has is = absurd is
grammar_stop shelf name sheet Unwritten has is = is
grammar_stop shelf name sheet Spent has is = tt
