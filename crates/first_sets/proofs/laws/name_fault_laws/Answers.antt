use Rattle.first_sets.proofs.CauseLemmas.{useful_law, one_fault_law}
use Rattle.first_sets.proofs.laws.name_fault_laws.Goals as goal

pub returns : goal.returns
returns c = record { useful = useful_law; one_fault = one_fault_law }
