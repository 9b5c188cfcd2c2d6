use Rattle.bare_theory.proofs.BareLemmas.{one_maps_law}
use Rattle.bare_theory.proofs.bare_laws.Goals as goal

pub returns : goal.returns
returns c = record { one_maps = one_maps_law }
