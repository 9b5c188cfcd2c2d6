use Rattle.part_laws.proofs.SomeLemmas.{some_parts_law}
use Rattle.part_laws.proofs.some_parts_law.Goals as goal

pub returns : goal.returns
returns c = some_parts_law
