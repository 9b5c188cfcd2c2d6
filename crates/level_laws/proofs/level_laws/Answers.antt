use Rattle.level_laws.proofs.LevelLemmas.{moved_level_law, moved_floors_law, new_level_law, shifting_law, leading_law, look_starts_law, look_map_law}
use Rattle.level_laws.proofs.level_laws.Goals as goal

pub returns : goal.returns
returns c = record {
  moved = moved_level_law;
  floors = moved_floors_law;
  new = new_level_law;
  shifting = shifting_law;
  leading = leading_law;
  look_starts = look_starts_law;
  look_map = look_map_law;
}
