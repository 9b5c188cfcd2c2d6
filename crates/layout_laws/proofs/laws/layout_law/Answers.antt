use Rattle.layout_laws.proofs.ReadLemmas.{layout_reads}
use Rattle.layout_laws.proofs.laws.layout_law.Goals as goal

pub returns : goal.returns
returns c = layout_reads
