use Rattle.use_theory.proofs.DistinctLemmas.{renewed_law, grown_law, filled_law, united_law}
use Rattle.use_theory.proofs.distinct_laws.Goals as goal

pub returns : goal.returns
returns c = record {
  renewed = renewed_law;
  grown = grown_law;
  filled = filled_law;
  united = united_law;
}
