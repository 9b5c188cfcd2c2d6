use Rattle.line_laws.proofs.SplitLemmas.{within_law}
use Rattle.line_laws.proofs.within_law.Goals as goal

pub returns : goal.returns
returns c = within_law
