use Rattle.grammar_faults.proofs.FaultLemmas.{one_fault, buildable}
use Rattle.grammar_faults.proofs.laws.grammar_fault_laws.Goals as goal

pub returns : goal.returns
returns c = record { one = one_fault; buildable = buildable }
