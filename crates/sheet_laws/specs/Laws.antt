-- Bytes are one sheet, or have one first fault.
use Rattle.std.specs.Prelude.{◌≡◌, ℕ, ◌+◌, ◌≤◌, List, length, sum_by}
use Rattle.sheet_data.specs.Sheet.{Sheet}
use Rattle.outline_data.specs.declared.fault.SheetFault.{SheetFault}
use Rattle.outline_data.specs.Parts.{OutlineParts}
use Rattle.outline_theory.specs.Outlines.{IsOutlineOf}
use Rattle.outline_theory.specs.LineFaults.{IsFirstLineFault}
use Rattle.outline_theory.specs.Limits.{positions_in}
use Rattle.outline_theory.specs.Numbering.{IsSheetOf}
use Rattle.outline_theory.specs.Reading.{IsFaultless, Reads, IsFirstFault}

-- a sheet's patterns and literals have no more positions, together, than the bytes of its outline
abbrev pub SizesLaw : Type 0
SizesLaw = (bytes : List ℕ) (o : OutlineParts) (sheet : Sheet) → IsOutlineOf bytes o → IsSheetOf o sheet → sum_by positions_in sheet.decls + sum_by length sheet.literals ≤ length bytes

-- it is refuted that a faultless outline has no sheet
abbrev pub SomeSheetLaw : Type 0
SomeSheetLaw = (o : OutlineParts) → IsFaultless o → ((sheet : Sheet) → ¬ (IsSheetOf o sheet)) → ⊥

-- and an outline has one at most
abbrev pub OneSheetOfLaw : Type 0
OneSheetOfLaw = (o : OutlineParts) (one other : Sheet) → IsSheetOf o one → IsSheetOf o other → one ≡ other

-- bytes are one sheet at most
abbrev pub OneSheetLaw : Type 0
OneSheetLaw = (bytes : List ℕ) (one other : Sheet) → Reads bytes one → Reads bytes other → one ≡ other

-- an outline has one first fault on its lines at most
abbrev pub OneLineFaultLaw : Type 0
OneLineFaultLaw = (o : OutlineParts) (one other : SheetFault) → IsFirstLineFault o one → IsFirstLineFault o other → one ≡ other

-- bytes have one first fault at most
abbrev pub OneFirstFaultLaw : Type 0
OneFirstFaultLaw = (bytes : List ℕ) (one other : SheetFault) → IsFirstFault bytes one → IsFirstFault bytes other → one ≡ other

-- and none where they are a sheet
abbrev pub NoFirstFaultLaw : Type 0
NoFirstFaultLaw = (bytes : List ℕ) (sheet : Sheet) (fault : SheetFault) → Reads bytes sheet → ¬ (IsFirstFault bytes fault)

-- it is refuted that they are no sheet and have no first fault
abbrev pub SheetOrFaultLaw : Type 0
SheetOrFaultLaw = (bytes : List ℕ) → ((sheet : Sheet) → ¬ (Reads bytes sheet)) → ((fault : SheetFault) → ¬ (IsFirstFault bytes fault)) → ⊥
