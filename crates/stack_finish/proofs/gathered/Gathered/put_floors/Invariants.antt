use Rattle.std.proofs.Common.{◌≡◌, List, drop}
use Rattle.grammar_data.specs.declared.token.Token.{Token as TextToken}
use Rattle.tree_theory.specs.Stores.{Store as NodeTable}
use Rattle.table_data.specs.Tables.{Tables as TablesSeen}
use Rattle.piece_theory.specs.Pieces.{Piece}
use Rattle.node_store.specs.Chunks.{numbers_in}
use Rattle.stack_finish.specs.Putting.{IsPutting}
use Rattle.stack_finish.proofs.gathered.Gathered.put_floors.Given as goal

abbrev pub invariant-loop-floor : goal.invariant-loop-floor
invariant-loop-floor l = record {
  at : (t : TablesSeen) (store : NodeTable) (left right : Piece) (rest : List Piece) (w : List TextToken) → IsPutting t store l.initial.self left right l.floors rest w → IsPutting t store l.self left right (drop l.floor-index l.floors) rest w;
  chunks : numbers_in l.self.store ≡ numbers_in l.initial.self.store;
  chunk : l.self.chunk ≡ l.initial.self.chunk;
  count : l.self.count ≡ l.initial.self.count;
}
