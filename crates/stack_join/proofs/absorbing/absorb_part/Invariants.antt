use Rattle.std.proofs.Common.{◌≡◌, ◌++◌, List, drop}
use Rattle.grammar_data.specs.declared.token.Token.{Token as TextToken}
use Rattle.piece_theory.specs.Pieces.{Piece}
use Rattle.use_theory.specs.Kept.{IsKept}
use Rattle.bare_theory.specs.Bare.{bares}
use Rattle.node_store.specs.Chunks.{numbers_in, store_of}
use Rattle.piece_lists.specs.Lists.{pieces_of}
use Rattle.arrow_table.specs.Looks.{Grows}
use Rattle.segment_parser.specs.Numbers.{AllStand}
use Rattle.stack_join.specs.Joining.{IsAtSeam}
use Rattle.stack_join.proofs.absorbing.absorb_part.Given as goal

abbrev pub invariant-loop-index : goal.invariant-loop-index
invariant-loop-index l = record {
  tables : l.arrows.0 ≡ l.initial.arrows.0;
  base : l.arrows.2 ≡ l.initial.arrows.2;
  stand : AllStand l.arrows.2 l.leaf;
  grows : Grows l.initial.arrows.1 l.arrows.1;
  chunks : numbers_in l.store ≡ numbers_in l.initial.store;
  closed : l.leaf.block.closed ≡ l.initial.leaf.block.closed;
  kept : IsKept (store_of l.initial.store) (store_of l.store);
  block : l.part.block ≡ l.initial.part.block;
  skipped : l.part.skipped ≡ l.index;
  at : (front pieces rest : List Piece) (w : List TextToken) → bares pieces ≡ pieces_of l.initial.part → IsAtSeam l.initial.arrows.0 (store_of l.initial.store) l.initial.arrows.1 l.initial.leaf front (pieces ++ rest) w → (left : List Piece) × (bares left ≡ drop l.index l.initial.part.block.closed) × IsAtSeam l.initial.arrows.0 (store_of l.store) l.arrows.1 l.leaf front (left ++ rest) w;
}
