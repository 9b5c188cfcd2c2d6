use Rattle.std.proofs.Common.{◌≡◌, ◌≤◌, take}
use Rattle.map_theory.specs.Maps.{target}
use Rattle.node_store.specs.Chunks.{store_of}
use Rattle.arrow_table.specs.Looks.{Grows, map_at}
use Rattle.segment_parser.specs.Numbers.{AreFrom}
use Rattle.segment_parser.proofs.EnterLemmas.{EntersTo}
use Rattle.segment_parser.proofs.entering.enter.Given as goal

abbrev pub invariant-loop-kid : goal.invariant-loop-kid
invariant-loop-kid l = record {
  tables : l.arrows.0 ≡ l.fn.arrows.0;
  base : l.arrows.2 ≡ l.fn.arrows.2;
  stands : l.fn.arrows.2 ≤ l.top;
  from : AreFrom l.fn.arrows.2 l.ids.items;
  grows : Grows l.fn.arrows.1 l.arrows.1;
  enters : EntersTo l.fn.arrows.0 (store_of l.store) (target (map_at l.fn.arrows.1 l.fn.own)) l.arrows.1 (take l.kid-index l.kids) l.ids.items l.top;
}
