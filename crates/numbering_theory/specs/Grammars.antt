-- The grammar of a sheet.
use Rattle.std.specs.Prelude.{◌≡◌, None}
use Rattle.lr_base.specs.IsGrammar.{IsGrammar}
use Rattle.sheet_data.specs.Sheet.{Sheet}
use Rattle.outline_data.specs.Parts.{OutlineParts}
use Rattle.outline_theory.specs.Spelling.{IsShaped}
use Rattle.outline_theory.specs.Numbering.{IsSheetOf}
use Rattle.outline_theory.specs.Limits.{measures, first_passed}
use Rattle.outline_theory.specs.Reading.{IsFaultless}

-- where an outline has no fault and its sheet passes no limit, the sheet's grammar is one
abbrev pub SheetGrammarLaw : Type 0
SheetGrammarLaw = (o : OutlineParts) (sheet : Sheet) → IsFaultless o → IsShaped o → IsSheetOf o sheet → first_passed (measures sheet) ≡ None → IsGrammar sheet.grammar
