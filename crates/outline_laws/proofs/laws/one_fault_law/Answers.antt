use Rattle.outline_laws.proofs.ApartLemmas.{one_fault}
use Rattle.outline_laws.proofs.laws.one_fault_law.Goals as goal

pub returns : goal.returns
returns c = one_fault
