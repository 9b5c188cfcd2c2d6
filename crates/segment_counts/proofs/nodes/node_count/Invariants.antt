use Rattle.std.proofs.Common.{ℕ, ◌≤◌, []}
use Rattle.grammar_theory.specs.Trees.{Tree, nodes}
use Rattle.node_data.specs.declared.kid.Kid.TheVariants.{Node as NodeKid}
use Rattle.tree_theory.specs.Stores.{Ref, Shows}
use Rattle.node_store.specs.Chunks.{store_of}
use Rattle.segment_counts.proofs.NodeLemmas.{Counts}
use Rattle.segment_counts.proofs.nodes.node_count.Given as goal

abbrev pub invariant-loop-taken : goal.invariant-loop-taken
invariant-loop-taken l = record {
  few : l.count ≤ l._taken;
  rest : (n : Ref) (i : ℕ) (tree : Tree) → Shows (store_of l.store) [] n i (NodeKid l.fn.root) tree → Counts l.walk l.count (nodes tree);
}
