-- What bytes are as a sheet: the sheet that they say, or their first fault.
use Rattle.std.specs.Prelude.{◌≡◌, ◌≢◌, ℕ, ◌+◌, ◌<◌, ◌≤◌, List, [], length, None, Some}
use Rattle.lr_base.specs.declared.limits.TheConstants.{SHEET_BYTES}
use Rattle.lexeme_theory.specs.declared.found.FaultKind.TheVariants.{BadByte as bad_byte_kind, Syntax as syntax_kind}
use Rattle.sheet_data.specs.Sheet.{Sheet}
use Rattle.outline_data.specs.declared.fault.LimitKind.TheVariants.{SheetBytes}
use Rattle.outline_data.specs.declared.fault.SheetFault.{SheetFault}
use Rattle.outline_data.specs.declared.fault.SheetFault.TheVariants.{BadByte, Syntax, NoRules, Limit}
use Rattle.outline_data.specs.Parts.{OutlineParts}
use Rattle.outline_theory.specs.Outlines.{IsOutlineOf, IsLexicalFault}
use Rattle.outline_theory.specs.LineFaults.{HasLineFault, IsFirstLineFault}
use Rattle.outline_theory.specs.Numbering.{IsSheetOf}
use Rattle.outline_theory.specs.Limits.{Measure, measures, first_passed}

-- the bytes are no more than a sheet may have, and they are the outline
pub record HasOutline (bytes : List ℕ) (outline : OutlineParts) : Type 0 where
  pub size : length bytes ≤ SHEET_BYTES
  pub of : IsOutlineOf bytes outline

-- an outline with rules and without faults on its lines
pub record IsFaultless (outline : OutlineParts) : Type 0 where
  pub rules : outline.groups ≢ []
  pub none : (fault : SheetFault) → ¬ (HasLineFault outline fault)

-- the bytes are those of the sheet
pub record Reads (bytes : List ℕ) (sheet : Sheet) : Type 0 where
  pub outline : OutlineParts
  pub has : HasOutline bytes outline
  pub faultless : IsFaultless outline
  pub says : IsSheetOf outline sheet
  pub within : first_passed (measures sheet) ≡ None

-- the bytes are no sheet's, and this is their first fault: the limit on the bytes comes first; then the first fault of the
-- reading from left to right; then the want of rules; then the first of the faults on lines; then the other limits
pub data IsFirstFault (bytes : List ℕ) : SheetFault → Type 0 where
  too_long : SHEET_BYTES < length bytes → IsFirstFault bytes (Limit SheetBytes (SHEET_BYTES + 1))
  bad_byte : {line : ℕ} → length bytes ≤ SHEET_BYTES → IsLexicalFault bytes bad_byte_kind line → IsFirstFault bytes (BadByte line)
  syntax : {line : ℕ} → length bytes ≤ SHEET_BYTES → IsLexicalFault bytes syntax_kind line → IsFirstFault bytes (Syntax line)
  no_rules : {outline : OutlineParts} → HasOutline bytes outline → outline.groups ≡ [] → IsFirstFault bytes NoRules
  on_line : {outline : OutlineParts} {fault : SheetFault} → HasOutline bytes outline → outline.groups ≢ [] → IsFirstLineFault outline fault → IsFirstFault bytes fault
  limit : {outline : OutlineParts} {sheet : Sheet} {measure : Measure} → HasOutline bytes outline → IsFaultless outline → IsSheetOf outline sheet → first_passed (measures sheet) ≡ Some measure → IsFirstFault bytes (Limit measure.kind measure.count)
