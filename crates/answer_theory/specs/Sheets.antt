-- What bytes are to a task that looks at them as a sheet: accepted, or refused with what is said of their first fault.
use Rattle.std.specs.Prelude.{◌≡◌, ◌≢◌, ℕ, ◌+◌, List}
use Rattle.scanning_theory.specs.declared.limits.TheConstants.{STATES}
use Rattle.position_theory.specs.States.{HasMoreStates}
use Rattle.sheet_data.specs.Sheet.{Sheet}
use Rattle.sheet_theory.specs.ScanOrder.{scanning_of}
use Rattle.outline_data.specs.declared.fault.LimitKind.TheVariants.{ScannerStates}
use Rattle.outline_data.specs.declared.fault.SheetFault.{SheetFault}
use Rattle.outline_data.specs.declared.fault.SheetFault.TheVariants.{Limit}
use Rattle.outline_theory.specs.Reading.{Reads, IsFirstFault}
use Rattle.grammar_faults.specs.declared.fault.GrammarFault.{GrammarFault}
use Rattle.grammar_faults.specs.declared.fault.GrammarFault.TheVariants.{NoMemory}
use Rattle.grammar_faults.specs.Building.{IsBuildable, IsFaultOf}
use Rattle.report_theory.specs.FaultTexts.{fault_text, grammar_text}
use Rattle.answer_theory.specs.Tasks.{Looking, for_scanning, for_parsing}

-- the sheet's patterns have more states than a scanner may have
abbrev pub HasTooManyStates : Sheet → Type 0
HasTooManyStates sheet = HasMoreStates (scanning_of sheet).patterns STATES

-- the fault of such a sheet
abbrev pub states_fault : SheetFault
states_fault = Limit ScannerStates (STATES + 1)

-- the bytes are a sheet's, and a scanner can have the states of its patterns
pub record Scans (bytes : List ℕ) (sheet : Sheet) : Type 0 where
  pub reads : Reads bytes sheet
  pub few : ¬ (HasTooManyStates sheet)

-- the fault of the bytes: the first of their reading; or they are a sheet's, whose patterns have too many states
pub data IsFault (bytes : List ℕ) : SheetFault → Type 0 where
  of_reading : {fault : SheetFault} → IsFirstFault bytes fault → IsFault bytes fault
  of_states : {sheet : Sheet} → Reads bytes sheet → HasTooManyStates sheet → IsFault bytes states_fault

-- the sheet has what a task needs that looks so far
abbrev pub Suits : Looking → Sheet → Type 0
Suits for_scanning sheet = Unit {0}
Suits for_parsing sheet = IsBuildable sheet.grammar

pub record IsAccepted (looking : Looking) (bytes : List ℕ) (sheet : Sheet) : Type 0 where
  pub scans : Scans bytes sheet
  pub suits : Suits looking sheet

-- the bytes have a fault for which the task looks, and this is said of the first
pub data IsRefused (looking : Looking) (bytes said : List ℕ) : Type 0 where
  by_fault : (fault : SheetFault) → IsFault bytes fault → said ≡ fault_text fault → IsRefused looking bytes said
  by_grammar : {sheet : Sheet} (fault : GrammarFault) → looking ≡ for_parsing → Scans bytes sheet → IsFaultOf sheet.grammar fault → fault ≢ NoMemory → said ≡ grammar_text sheet fault → IsRefused looking bytes said
