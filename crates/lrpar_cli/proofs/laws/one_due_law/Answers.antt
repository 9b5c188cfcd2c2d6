use Rattle.lrpar_cli.proofs.LawLemmas.{one_due}
use Rattle.lrpar_cli.proofs.laws.one_due_law.Goals as goal

pub returns : goal.returns
returns c = one_due
