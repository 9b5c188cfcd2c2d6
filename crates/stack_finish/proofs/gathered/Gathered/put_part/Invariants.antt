use Rattle.std.proofs.Common.{◌≡◌, List, ◌++◌, drop}
use Rattle.grammar_data.specs.declared.token.Token.{Token as TextToken}
use Rattle.tree_theory.specs.Stores.{Store as NodeTable}
use Rattle.piece_theory.specs.Pieces.{Piece}
use Rattle.bare_theory.specs.Bare.{bares}
use Rattle.node_store.specs.Chunks.{numbers_in}
use Rattle.piece_lists.specs.Lists.{pieces_of}
use Rattle.stack_finish.specs.Gathering.{IsGathered}
use Rattle.stack_finish.proofs.gathered.Gathered.put_part.Given as goal

abbrev pub invariant-loop-index : goal.invariant-loop-index
invariant-loop-index l = record {
  at : (base : NodeTable) (pieces rest : List Piece) (w : List TextToken) → bares pieces ≡ pieces_of l.part → IsGathered l.tables base l.initial.self (pieces ++ rest) w → (left : List Piece) × (bares left ≡ drop l.index l.part.block.closed) × IsGathered l.tables base l.self (left ++ rest) w;
  chunks : numbers_in l.self.store ≡ numbers_in l.initial.self.store;
  chunk : l.self.chunk ≡ l.initial.self.chunk;
}
