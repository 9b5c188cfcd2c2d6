use Rattle.core_theory.proofs.TreeLemmas.{nested_law, some_node_law, one_node_law, some_parent_law, one_parent_law, leaf_law}
use Rattle.core_theory.proofs.join_tree_laws.Goals as goal

pub returns : goal.returns
returns c = record {
  nested = nested_law;
  some_node = some_node_law;
  one_node = one_node_law;
  some_parent = some_parent_law;
  one_parent = one_parent_law;
  leaf = leaf_law;
}
