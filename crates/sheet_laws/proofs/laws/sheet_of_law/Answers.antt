use Rattle.sheet_laws.proofs.SheetLemmas.{some_sheet, sheet_once}
use Rattle.sheet_laws.proofs.laws.sheet_of_law.Goals as goal

pub returns-clause-some : goal.returns-clause-some
returns-clause-some c = some_sheet

pub returns-clause-one : goal.returns-clause-one
returns-clause-one c = sheet_once
