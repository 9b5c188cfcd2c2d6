use Rattle.std.proofs.Common.{◌≡◌, drop}
use Rattle.node_store.specs.Chunks.{numbers_in, store_of}
use Rattle.arrow_table.specs.Looks.{Grows}
use Rattle.segment_parser.specs.Numbers.{AllStand}
use Rattle.stack_join.specs.Joining.{IsLanding, Met}
use Rattle.stack_join.proofs.putting.land_all.Given as goal

abbrev pub invariant-loop-floor : goal.invariant-loop-floor
invariant-loop-floor l = record {
  tables : l.arrows.0 ≡ l.initial.arrows.0;
  base : l.arrows.2 ≡ l.initial.arrows.2;
  stand : AllStand l.arrows.2 l.leaf;
  grows : Grows l.initial.arrows.1 l.arrows.1;
  chunks : numbers_in l.store ≡ numbers_in l.initial.store;
  closed : l.leaf.block.closed ≡ l.initial.leaf.block.closed;
  at : (met : Met) → IsLanding l.initial.arrows.0 met (store_of l.initial.store) l.initial.arrows.1 l.initial.leaf l.floors → IsLanding l.initial.arrows.0 met (store_of l.store) l.arrows.1 l.leaf (drop l.floor-index l.floors);
}
