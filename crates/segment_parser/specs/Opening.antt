-- An open piece that grows beside other pieces, of which it doesn't take notice.
use Rattle.std.specs.Prelude.{List}
use Rattle.grammar_data.specs.declared.token.Token.{Token as TextToken}
use Rattle.tree_theory.specs.Stores.{Ref, Store}
use Rattle.tree_theory.specs.Walks.{Step}
use Rattle.table_data.specs.Tables.{Tables}
use Rattle.map_theory.specs.Maps.{StateMap}
use Rattle.piece_theory.specs.Pieces.{Held}
use Rattle.leaf_laws.specs.Leaves.{IsOpenPiece}
use Rattle.walk_laws.specs.Walked.{IsWalked}
use Rattle.segment_parser.specs.declared.leaf.Leaf.{Leaf}
use Rattle.segment_parser.specs.Standing.{last_in, piece_in, HasMaps}

-- the other pieces have these nodes of floors and this walk; the open one has the tokens `w`, and `next` is looked at
pub record IsOpenIn (t : Tables) (store : Store) (maps : List StateMap) (s : Leaf) (nodes : List Ref) (front : List Step) (w next : List TextToken) : Type 0 where
  pub has : HasMaps maps s
  pub under : List Held
  pub last : Held
  pub open_piece : IsOpenPiece t store (piece_in maps s) w next s.block.floors (last_in maps s) under last s.stale
  pub walked : IsWalked store nodes front (piece_in maps s) w
