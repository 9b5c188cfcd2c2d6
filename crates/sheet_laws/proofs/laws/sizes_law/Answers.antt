use Rattle.sheet_laws.proofs.SizeLemmas.{positions_within}
use Rattle.sheet_laws.proofs.laws.sizes_law.Goals as goal

pub returns : goal.returns
returns c = positions_within
