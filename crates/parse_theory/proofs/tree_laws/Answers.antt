use Rattle.parse_theory.proofs.ReadLemmas.{sound_law, complete_law, one_tree_law}
use Rattle.parse_theory.proofs.OnlyLemmas.{only_trees_law, tree_bound_law}
use Rattle.parse_theory.proofs.tree_laws.Goals as goal

pub returns : goal.returns
returns c = record {
  sound = sound_law;
  complete = complete_law;
  one_tree = one_tree_law;
  only_trees = only_trees_law;
  tree_bound = tree_bound_law;
}
