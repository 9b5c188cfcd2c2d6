use Rattle.std.proofs.Common.{◌≡◌, ◌∷◌, List}
use Rattle.grammar_data.specs.declared.token.Token.{Token as TextToken}
use Rattle.piece_theory.specs.Pieces.{Piece}
use Rattle.piece_theory.specs.Laws.{HasMore}
use Rattle.node_store.specs.Chunks.{numbers_in, store_of}
use Rattle.arrow_table.specs.Looks.{Grows}
use Rattle.segment_parser.specs.Numbers.{AllStand}
use Rattle.stack_join.specs.Joining.{IsAtSeam}
use Rattle.stack_join.proofs.looking.settle.Given as goal

abbrev pub invariant-loop : goal.invariant-loop
invariant-loop l = record {
  tables : l.arrows.0 ≡ l.initial.arrows.0;
  base : l.arrows.2 ≡ l.initial.arrows.2;
  stand : AllStand l.arrows.2 l.leaf;
  grows : Grows l.initial.arrows.1 l.arrows.1;
  chunks : numbers_in l.store ≡ numbers_in l.initial.store;
  closed : l.leaf.block.closed ≡ l.initial.leaf.block.closed;
  more : HasMore (store_of l.initial.store) (store_of l.store);
  at : (front : List Piece) (right : Piece) (rest : List Piece) (w : List TextToken) → right.first ≡ l.token → IsAtSeam l.initial.arrows.0 (store_of l.initial.store) l.initial.arrows.1 l.initial.leaf front (right ∷ rest) w → IsAtSeam l.initial.arrows.0 (store_of l.store) l.arrows.1 l.leaf front (right ∷ rest) w;
}
