use Rattle.map_theory.proofs.MapLemmas.{one_map_law, followed_law, keep_law}
use Rattle.map_theory.proofs.map_laws.Goals as goal

pub returns : goal.returns
returns c = record { one = one_map_law; followed = followed_law; keep = keep_law }
