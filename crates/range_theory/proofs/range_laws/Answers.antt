use Rattle.range_theory.proofs.LawLemmas.{bound_law, join_law, lines_law, whole_law}
use Rattle.range_theory.proofs.range_laws.Goals as goal

pub returns : goal.returns
returns c = record { bound = bound_law; join = join_law; lines = lines_law; whole = whole_law }
