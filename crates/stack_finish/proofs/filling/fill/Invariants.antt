use Rattle.std.proofs.Common.{◌≡◌, ◌+◌, ◌≤◌, length, drop}
use Rattle.use_theory.specs.Fills.{SuppliesPart}
use Rattle.node_store.specs.Chunks.{numbers_in, store_of}
use Rattle.stack_finish.proofs.filling.fill.Given as goal

abbrev pub invariant-loop-left : goal.invariant-loop-left
invariant-loop-left l = record {
  inside : l.left ≤ length l.kids;
  filled : SuppliesPart (store_of l.initial.store) (store_of l.store) l.node (l.still + l.left) (drop l.left l.kids);
  chunks : numbers_in l.store ≡ numbers_in l.initial.store;
}

abbrev pub decreases-loop-left : goal.decreases-loop-left
decreases-loop-left l = l.left
