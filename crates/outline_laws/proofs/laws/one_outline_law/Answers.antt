use Rattle.outline_laws.proofs.ApartLemmas.{one_outline}
use Rattle.outline_laws.proofs.laws.one_outline_law.Goals as goal

pub returns : goal.returns
returns c = one_outline
