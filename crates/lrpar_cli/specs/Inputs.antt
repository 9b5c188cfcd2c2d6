-- What was read for a command, and why a reading stopped.
use Rattle.std.specs.Prelude.{◌≡◌, ◌≢◌, ℕ, ◌<◌, ◌≤◌, List, [], ◌∷◌, ◌++◌, false, length}
use Rattle.lr_base.specs.Outside.{ShelfSeen, Rose, is_listed}
use Rattle.lr_base.specs.Reading.{StandsUnder}
use Rattle.scanning_theory.specs.Scan.{token_count}
use Rattle.sheet_data.specs.Sheet.{Sheet}
use Rattle.sheet_theory.specs.ScanOrder.{scanning_of}
use Rattle.scanning_theory.specs.declared.limits.TheConstants.{PATTERNS}
use Rattle.token_patterns.specs.Scanner.{IsScannerOf, ranks_of}
use Rattle.answer_theory.specs.declared.status.Status.TheVariants.{SheetRefused}
use Rattle.grammar_faults.specs.declared.fault.GrammarFault.{GrammarFault}
use Rattle.grammar_faults.specs.declared.fault.GrammarFault.TheVariants.{NoMemory}
use Rattle.grammar_faults.specs.Building.{IsFaultOf}
use Rattle.report_theory.specs.FaultTexts.{fault_text, grammar_text}
use Rattle.answer_theory.specs.Sheets.{HasTooManyStates, states_fault, IsAccepted, IsRefused}
use Rattle.answer_theory.specs.Tasks.{Looking, Input}
use Rattle.lrpar_cli.specs.declared.inputs.Scanned.{Scanned}
use Rattle.lrpar_cli.specs.declared.stop.Stop.{Stop}
use Rattle.lrpar_cli.specs.declared.stop.Stop.TheVariants.{Due, Unread, Unwritten, Spent}

-- the name was begun, and no other; where its reading failed it isn't served and the count rose, and else the count
-- stands where it stood
pub record ReadsName (before after : ShelfSeen) (name : List ℕ) (failed : Type 0) : Type 0 where
  pub begun : after.begun ≡ before.begun ++ name ∷ []
  pub kept : ¬ failed → after.faults ≡ before.faults
  pub rose : failed → Rose before.faults after.faults
  pub unserved : failed → is_listed before.served name ≡ false

-- the sheet under the name is accepted
pub record HasSheet (looking : Looking) (shelf : ShelfSeen) (name : List ℕ) (sheet : Sheet) : Type 0 where
  pub bytes : List ℕ
  pub stand : StandsUnder shelf name bytes
  pub accepted : IsAccepted looking bytes sheet

-- the bytes under the name are refused as a sheet, and this is said of them
pub record HasRefusal (looking : Looking) (shelf : ShelfSeen) (name said : List ℕ) : Type 0 where
  pub bytes : List ℕ
  pub stand : StandsUnder shelf name bytes
  pub refused : IsRefused looking bytes said

-- why there is no accepted sheet
abbrev pub IsSheetStop : Looking → ShelfSeen → List ℕ → Stop → Type 0
IsSheetStop looking shelf name (Due status said) = (status ≡ SheetRefused) × HasRefusal looking shelf name said
IsSheetStop looking shelf name Unread = Unit {0}
IsSheetStop looking shelf name Unwritten = ⊥
IsSheetStop looking shelf name Spent = Unit {0}

-- the bytes under the name are as many as the input may have
pub record HasInput (input : Input) (shelf : ShelfSeen) (name bytes : List ℕ) : Type 0 where
  pub stand : StandsUnder shelf name bytes
  pub within : length bytes ≤ input.most

-- the bytes under the name are more than the input may have
pub record HasLongInput (input : Input) (shelf : ShelfSeen) (name : List ℕ) : Type 0 where
  pub bytes : List ℕ
  pub stand : StandsUnder shelf name bytes
  pub long : input.most < length bytes

-- why there is no such input
abbrev pub IsInputStop : Input → ShelfSeen → List ℕ → Stop → Type 0
IsInputStop input shelf name (Due status said) = (status ≡ input.status) × (said ≡ input.said) × HasLongInput input shelf name
IsInputStop input shelf name Unread = Unit {0}
IsInputStop input shelf name Unwritten = ⊥
IsInputStop input shelf name Spent = Unit {0}

-- the scanner is that of the sheet's patterns, and each rank means what the sheet says
pub record IsReady (scanned : Scanned) : Type 0 where
  pub scanner : IsScannerOf scanned.scanner (scanning_of scanned.sheet).patterns
  pub means : scanned.means.items ≡ (scanning_of scanned.sheet).means
  pub ranks : ranks_of scanned.scanner ≡ length scanned.means.items
  pub few : length scanned.means.items ≤ PATTERNS
  pub tokens : token_count scanned.means.items ≡ scanned.sheet.grammar.tokens

-- why bytes give no sheet with a scanner
abbrev pub IsScanStop : List ℕ → Stop → Type 0
IsScanStop bytes (Due status said) = (status ≡ SheetRefused) × ((looking : Looking) → IsRefused looking bytes said)
IsScanStop bytes Unread = ⊥
IsScanStop bytes Unwritten = ⊥
IsScanStop bytes Spent = Unit {0}

-- why a sheet gives no scanner
abbrev pub IsStatesStop : Sheet → Stop → Type 0
IsStatesStop sheet (Due status said) = (status ≡ SheetRefused) × HasTooManyStates sheet × (said ≡ fault_text states_fault)
IsStatesStop sheet Unread = ⊥
IsStatesStop sheet Unwritten = ⊥
IsStatesStop sheet Spent = Unit {0}

-- the sheet's grammar has no tables, and this is said of its first fault
pub record HasNoTables (sheet : Sheet) (said : List ℕ) : Type 0 where
  pub fault : GrammarFault
  pub of : IsFaultOf sheet.grammar fault
  pub found : fault ≢ NoMemory
  pub is : said ≡ grammar_text sheet fault

-- why a sheet's grammar gives no tables
abbrev pub IsGrammarStop : Sheet → Stop → Type 0
IsGrammarStop sheet (Due status said) = (status ≡ SheetRefused) × HasNoTables sheet said
IsGrammarStop sheet Unread = ⊥
IsGrammarStop sheet Unwritten = ⊥
IsGrammarStop sheet Spent = Unit {0}
