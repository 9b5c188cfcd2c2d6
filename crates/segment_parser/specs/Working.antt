-- The piece that is open, read off what the code keeps of it: the numbers of the maps over its entries, in a table of maps,
-- beside the kids of the entries; the floors that were closed, and the last one.
use Rattle.std.specs.Prelude.{◌≡◌, ℕ, ◌-◌, ◌<◌, ◌≤◌, List, [], ◌∷◌, ◌++◌, length, All, Option, slice_set, slice_index_or}
use Rattle.grammar_data.specs.declared.token.Token.{Token as TextToken}
use Rattle.node_data.specs.declared.kid.Kid.{Kid}
use Rattle.map_theory.specs.Maps.{StateMap}
use Rattle.map_theory.specs.Relations.{IsIdentityOf, IsRestricted}
use Rattle.piece_theory.specs.Pieces.{Fault, Opened, Floor, Held, Piece}
use Rattle.arrow_table.specs.Looks.{HasMap, map_at}

-- the entries: kids, each with the map that has its number
abbrev pub held_of : List StateMap → List Kid → List ℕ → List Held
held_of maps [] ids = []
held_of maps (kid ∷ kids) [] = []
held_of maps (kid ∷ kids) (id ∷ ids) = record { kid = kid; states = map_at maps id } ∷ held_of maps kids ids

-- the number of the last entry's map
abbrev pub last_id : List ℕ → ℕ
last_id ids = slice_index_or ids (length ids - 1) 0

-- the last floor
abbrev pub last_of : List StateMap → Option Opened → ℕ → List Fault → Floor
last_of maps opened starts faults = record { opened = opened; starts = map_at maps starts; faults = faults }

-- the open piece
abbrev pub piece_of : List StateMap → TextToken → ℕ → List Floor → Floor → List Kid → List ℕ → Piece
piece_of maps first count lower last kids ids = record { first = first; count = count; floors = lower ++ last ∷ []; stack = held_of maps kids ids }

-- the maps are there
abbrev pub AreThere : List StateMap → List ℕ → Type 0
AreThere maps ids = All {X = ℕ} (λ id. id < length maps) ids

-- a map has the starts of another, each to itself
abbrev pub AreOwn : List StateMap → ℕ → ℕ → Type 0
AreOwn maps starts own = IsIdentityOf (map_at maps starts) (map_at maps own)

-- where an entry's map may have starts that have erred, another map without them stands in its place, and the entries from
-- it on have alive starts alone; else nothing changes
pub data IsFreshAt (maps new : List StateMap) (starts stale stale1 depth : ℕ) (ids ids1 : List ℕ) : Type 0 where
  was_fresh : stale ≤ depth → stale1 ≡ stale → ids1 ≡ ids → IsFreshAt maps new starts stale stale1 depth ids ids1
  made_fresh : (fresh : ℕ) → depth < stale → stale1 ≡ depth → ids1 ≡ slice_set ids depth fresh → HasMap new fresh (IsRestricted (map_at maps (slice_index_or ids depth 0)) (map_at maps starts)) → IsFreshAt maps new starts stale stale1 depth ids ids1
