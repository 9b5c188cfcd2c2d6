use Rattle.outline_laws.proofs.ApartLemmas.{no_fault}
use Rattle.outline_laws.proofs.laws.apart_law.Goals as goal

pub returns : goal.returns
returns c = no_fault
