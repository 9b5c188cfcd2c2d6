use Rattle.grammar_laws.proofs.RangeLemmas.{in_range}
use Rattle.grammar_laws.proofs.range_law.Goals as goal

pub returns : goal.returns
returns c = in_range
