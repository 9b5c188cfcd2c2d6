use Rattle.lrpar_cli.proofs.LawLemmas.{loaded}
use Rattle.lrpar_cli.proofs.laws.loaded_law.Goals as goal

pub returns : goal.returns
returns c = loaded
