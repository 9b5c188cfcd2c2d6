use Rattle.sheet_laws.proofs.FaultLemmas.{no_first_fault}
use Rattle.sheet_laws.proofs.laws.no_first_fault_law.Goals as goal

pub returns : goal.returns
returns c = no_first_fault
