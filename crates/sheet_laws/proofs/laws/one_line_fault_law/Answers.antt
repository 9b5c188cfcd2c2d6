use Rattle.sheet_laws.proofs.LineFaults.{one_line_fault}
use Rattle.sheet_laws.proofs.laws.one_line_fault_law.Goals as goal

pub returns : goal.returns
returns c = one_line_fault
