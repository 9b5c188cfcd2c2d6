use Rattle.position_sets.proofs.PlaceLemmas.{equal_from_places}
use Rattle.position_sets.proofs.places.equal_by_places.Goals as goal

pub returns : goal.returns
returns c = equal_from_places
