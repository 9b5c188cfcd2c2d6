-- Where a join stands, read off what the code keeps: the left list's last piece is open, as a leaf of the parse of a segment is.
use Rattle.std.specs.Prelude.{◌≡◌, ℕ, ◌<◌, List, ◌++◌, ◌⊎◌, length, Bool, true, false, if◌then◌else◌, ◌==◌}
use Rattle.grammar_data.specs.declared.token.Token.{Token as TextToken}
use Rattle.tree_theory.specs.Stores.{Store}
use Rattle.tree_theory.specs.Walks.{Step}
use Rattle.table_data.specs.Tables.{Tables}
use Rattle.map_theory.specs.Maps.{StateMap}
use Rattle.map_theory.specs.Agreements.{NoneLeft, AllShift, AreSeveral}
use Rattle.piece_theory.specs.Pieces.{Floor, Piece}
use Rattle.level_laws.specs.Growing.{AreTight}
use Rattle.level_laws.specs.Laws.{AreFresh}
use Rattle.joined_laws.specs.Joining.{Beside}
use Rattle.joined_laws.specs.Joint.{Meet, IsJoining, IsJoined}
use Rattle.landing_laws.specs.Behind.{AreRising}
use Rattle.seam_theory.specs.Seams.{IsSeam}
use Rattle.arrow_table.specs.Looks.{NoneErrs, map_at}
use Rattle.segment_parser.specs.declared.leaf.Leaf.{Leaf}
use Rattle.segment_parser.specs.Working.{last_id}
use Rattle.segment_parser.specs.Standing.{last_in, piece_in, HasMaps}

-- the number of the map over the last entry, or where there is none, of the one that leads each start to itself
abbrev pub over_id : Leaf → ℕ
over_id s = (if length s.ids.items == 0 then s.own else last_id s.ids.items)

-- the maps over the open piece's entries have alive starts alone, but for the first ones, so many, which may have others too;
-- the last one is never one of these
pub record IsTightIn (maps : List StateMap) (s : Leaf) : Type 0 where
  pub tight : AreTight (map_at maps s.starts) s.stale (piece_in maps s).stack
  pub within : (s.stale ≡ 0) ⊎ (s.stale < length s.ids.items)

-- the open piece as the code keeps it is this piece, but that maps over its entries may have starts that have erred
pub record IsKeptAs (maps : List StateMap) (s : Leaf) (p : Piece) : Type 0 where
  pub has : HasMaps maps s
  pub first : s.first ≡ p.first
  pub count : s.count ≡ p.count
  pub floors : (piece_in maps s).floors ≡ p.floors
  pub fresh : AreFresh (map_at maps s.starts) (piece_in maps s).stack p.stack
  pub rising : AreRising (piece_in maps s).stack
  pub tight : IsTightIn maps s

-- the open piece is the left list's last one at the seam, behind the pieces `front`; the pieces `rest` of the right list are
-- still to come
pub record IsAtSeam (t : Tables) (store : Store) (maps : List StateMap) (s : Leaf) (front rest : List Piece) (w : List TextToken) : Type 0 where
  pub last : Piece
  pub kept_as : IsKeptAs maps s last
  pub seam : IsSeam t store front last rest w

-- all states over the open piece shift the token, and none errs; or they don't agree on it
abbrev pub IsDecided : Tables → List StateMap → Leaf → TextToken → Bool → Type 0
IsDecided t maps s token true = NoneErrs t token.id (map_at maps (last_id s.ids.items)) × AllShift t token.id (map_at maps (last_id s.ids.items))
IsDecided t maps s token false = NoneLeft t token.id (map_at maps (last_id s.ids.items)) ⊎ AreSeveral t token.id (map_at maps (last_id s.ids.items))

-- two pieces that meet, in a store, with their tokens, what comes next, their walks, and what stands beside them
pub record Met : Type 0 where
  pub store : Store
  pub left : Piece
  pub right : Piece
  pub u : List TextToken
  pub v : List TextToken
  pub next : List TextToken
  pub steps : List Step
  pub more : List Step
  pub beside : Beside

-- floors of the right piece are put on the open piece, and these are still to come
pub record IsLanding (t : Tables) (met : Met) (now : Store) (maps : List StateMap) (s : Leaf) (further : List Floor) : Type 0 where
  pub has : HasMaps maps s
  pub meet : Meet t met.store met.left met.right met.u met.v met.next met.steps met.more
  pub joining : IsJoining t met.store now met.left met.right (piece_in maps s) met.u met.v met.beside s.block.floors (last_in maps s) further
  pub count : s.count ≡ length met.u
  pub tight : IsTightIn maps s

-- the right piece is put on the open piece
pub record IsPiled (t : Tables) (met : Met) (now : Store) (maps : List StateMap) (s : Leaf) : Type 0 where
  pub joined : Piece
  pub kept_as : IsKeptAs maps s joined
  pub first : joined.first ≡ met.left.first
  pub is_joined : IsJoined t met.store now met.right joined (met.u ++ met.v) met.next met.beside
