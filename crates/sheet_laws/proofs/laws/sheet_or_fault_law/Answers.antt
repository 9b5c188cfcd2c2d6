use Rattle.sheet_laws.proofs.AnswerLemmas.{some_sheet_or_fault}
use Rattle.sheet_laws.proofs.laws.sheet_or_fault_law.Goals as goal

pub returns : goal.returns
returns c = some_sheet_or_fault
