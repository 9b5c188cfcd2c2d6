use Rattle.level_laws.proofs.GrowingLemmas.{opened_piece_law, looked_piece_law, pushed_piece_law, taken_piece_law, taken_fresh_law, whole_piece_law, floor_piece_law, more_nodes_law, last_map_law, exact_maps_law}
use Rattle.level_laws.proofs.growing_laws.Goals as goal

pub returns : goal.returns
returns c = record {
  opened = opened_piece_law;
  looked = looked_piece_law;
  pushed = pushed_piece_law;
  taken = taken_piece_law;
  taken_fresh = taken_fresh_law;
  whole = whole_piece_law;
  floor = floor_piece_law;
  more_nodes = more_nodes_law;
  last_map = last_map_law;
  exact = exact_maps_law;
}
