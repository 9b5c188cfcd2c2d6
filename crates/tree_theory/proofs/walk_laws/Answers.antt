use Rattle.tree_theory.proofs.WalkLemmas.{one_walk_law, walk_law}
use Rattle.tree_theory.proofs.walk_laws.Goals as goal

pub returns : goal.returns
returns c = record {
  one_walk = one_walk_law;
  walk = walk_law;
}
