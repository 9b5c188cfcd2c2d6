-- Lists of pieces in parts, and what contracts see of such a list with its store.
use Rattle.std.specs.Prelude.{List, [], ◌∷◌, ◌++◌, drop}
use Rattle.bare_theory.specs.Bare.{Bare}
use Rattle.node_store.specs.Chunks.{Chunk}
use Rattle.piece_lists.specs.declared.part.Part.{Part}

-- the pieces of a part
abbrev pub pieces_of : Part → List Bare
pieces_of part = drop part.skipped part.block.closed

-- those of parts, one after the other
abbrev pub pieces_in : List Part → List Bare
pieces_in [] = []
pieces_in (part ∷ parts) = pieces_of part ++ pieces_in parts

-- closed pieces, and the chunks of the store that has their nodes
pub record Stored : Type 0 where
  pub closed : List Bare
  pub store : List Chunk
