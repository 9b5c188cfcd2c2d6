use Rattle.retrace_laws.proofs.RetraceLemmas.{retraced_maps_law, retraced_piece_law, retraced_open_law, retraced_leaf_law}
use Rattle.retrace_laws.proofs.retrace_laws.Goals as goal

pub returns : goal.returns
returns c = record { maps = retraced_maps_law; piece = retraced_piece_law; open_piece = retraced_open_law; leaf = retraced_leaf_law }
