use Rattle.std.proofs.Common.{◌≡◌, ◌++◌, ◌∷◌, [], List, drop}
use Rattle.grammar_data.specs.declared.token.Token.{Token as TextToken}
use Rattle.piece_theory.specs.Pieces.{Piece}
use Rattle.bare_theory.specs.Bare.{bares, AreBarePiecesOf}
use Rattle.node_store.specs.Chunks.{numbers_in, store_of}
use Rattle.piece_lists.specs.Lists.{pieces_in}
use Rattle.stack_finish.specs.Gathering.{IsGathered}
use Rattle.stack_finish.proofs.finishing.finish.Given as goal

abbrev pub invariant-loop-part : goal.invariant-loop-part
invariant-loop-part l = record {
  at : (w : List TextToken) → AreBarePiecesOf l.tables (store_of l.fn.pieces.store) l.fn.pieces.closed w → (left : List Piece) × (bares left ≡ pieces_in (drop l.part-index l.part-items)) × IsGathered l.tables (store_of l.fn.pieces.store) l.gathered left w;
  chunks : numbers_in l.gathered.store ≡ numbers_in l.fn.pieces.store ++ l.fn.chunk ∷ [];
  chunk : l.gathered.chunk ≡ l.fn.chunk;
}
