use Rattle.lrpar_cli.proofs.LawLemmas.{complete, served, room}
use Rattle.lrpar_cli.proofs.laws.complete_law.Goals as goal

pub returns : goal.returns
returns c = record { complete = complete; served = served; room = room }
