use Rattle.line_laws.proofs.SplitLemmas.{split_law}
use Rattle.line_laws.proofs.split_law.Goals as goal

pub returns : goal.returns
returns c = split_law
