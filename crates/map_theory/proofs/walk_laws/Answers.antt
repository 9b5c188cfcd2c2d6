use Rattle.map_theory.proofs.MapLemmas.{walk_law}
use Rattle.map_theory.proofs.walk_laws.Goals as goal

pub returns : goal.returns
returns c = walk_law
