use Rattle.sheet_laws.proofs.ReadLemmas.{one_sheet}
use Rattle.sheet_laws.proofs.laws.one_sheet_law.Goals as goal

pub returns : goal.returns
returns c = one_sheet
