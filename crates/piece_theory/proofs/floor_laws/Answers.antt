use Rattle.piece_theory.proofs.FloorLemmas.{stacked_law, floors_law}
use Rattle.piece_theory.proofs.floor_laws.Goals as goal

pub returns : goal.returns
returns c = record {
  stacked = stacked_law;
  floors = floors_law;
}
