use Rattle.sheet_laws.proofs.FaultLemmas.{one_first_fault}
use Rattle.sheet_laws.proofs.laws.one_first_fault_law.Goals as goal

pub returns : goal.returns
returns c = one_first_fault
