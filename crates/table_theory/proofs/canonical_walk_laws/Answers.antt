use Rattle.table_theory.proofs.StepLemmas.{canonical_step, canonical_walk, canonical_deed, canonical_viable, canonical_stop}
use Rattle.table_theory.proofs.canonical_walk_laws.Goals as goal

pub returns : goal.returns
returns c = record {
  step = canonical_step;
  walk = canonical_walk;
  deed = canonical_deed;
  viable = canonical_viable;
  stop = canonical_stop;
}
