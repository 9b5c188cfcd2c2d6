-- Where the parse of a segment stands, read off what the code keeps: the maps over the entries are there, one for each kid,
-- the closed pieces are those of the block without their maps, and the open piece is the leaf of the parse.
use Rattle.std.specs.Prelude.{◌≡◌, ◌<◌, List, length}
use Rattle.grammar_data.specs.declared.token.Token.{Token as TextToken}
use Rattle.tree_theory.specs.Stores.{Store}
use Rattle.table_data.specs.Tables.{Tables}
use Rattle.map_theory.specs.Maps.{StateMap}
use Rattle.map_theory.specs.Relations.{IsIdentityOf}
use Rattle.piece_theory.specs.Pieces.{Floor, Held, Piece}
use Rattle.leaf_laws.specs.Leaves.{IsLeaf}
use Rattle.segment_laws.specs.Parsing.{IsParsing}
use Rattle.bare_theory.specs.Bare.{bares}
use Rattle.arrow_table.specs.Looks.{HasMap, map_at}
use Rattle.segment_parser.specs.declared.leaf.Leaf.{Leaf}
use Rattle.segment_parser.specs.Working.{last_of, piece_of, AreThere}

abbrev pub last_in : List StateMap → Leaf → Floor
last_in maps s = last_of maps s.opened s.starts s.faults

abbrev pub piece_in : List StateMap → Leaf → Piece
piece_in maps s = piece_of maps s.first s.count s.block.floors (last_in maps s) s.block.kids s.ids.items

-- the maps that the open piece names are there
pub record HasMaps (maps : List StateMap) (s : Leaf) : Type 0 where
  pub even : length s.block.kids ≡ length s.ids.items
  pub there : AreThere maps s.ids.items
  pub starts : s.starts < length maps
  pub own : HasMap maps s.own (IsIdentityOf (map_at maps s.starts))

-- all is the same but the entries, how far down their maps are fresh, and the number of tokens
pub record SameButEntries (s after : Leaf) : Type 0 where
  pub floors : after.block.floors ≡ s.block.floors
  pub closed : after.block.closed ≡ s.block.closed
  pub faults : after.faults ≡ s.faults
  pub opened : after.opened ≡ s.opened
  pub starts : after.starts ≡ s.starts
  pub own : after.own ≡ s.own
  pub first : after.first ≡ s.first

-- `w` are the tokens of the open piece, `next` has the token that is looked at, or nothing, and `rest` is left
pub record IsAt (t : Tables) (store : Store) (maps : List StateMap) (s : Leaf) (tokens w rest next : List TextToken) : Type 0 where
  pub has : HasMaps maps s
  pub closed : List Piece
  pub same : s.block.closed ≡ bares closed
  pub parsing : IsParsing t store tokens closed (piece_in maps s) w rest
  pub under : List Held
  pub last : Held
  pub leaf : IsLeaf t store (piece_in maps s) w next s.block.floors (last_in maps s) under last s.stale
