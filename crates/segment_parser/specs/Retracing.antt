-- Maps over entries that are found again. From a map over the entries below, with alive starts alone, steps along the kids'
-- symbols lead to the maps of entries one behind the other.
-- Source: this project's own.
use Rattle.std.specs.Prelude.{◌≡◌, ℕ, ◌<◌, if◌then◌else◌, List, ◌++◌, length, take, Option, None, is_some}
use Rattle.node_data.specs.declared.kid.Kid.{Kid}
use Rattle.tree_theory.specs.Stores.{Store}
use Rattle.table_data.specs.Tables.{Tables}
use Rattle.map_theory.specs.Maps.{StateMap, target}
use Rattle.piece_theory.specs.WellMade.{start_of}
use Rattle.arrow_table.specs.Looks.{map_at}
use Rattle.segment_parser.specs.declared.leaf.Leaf.{Leaf}
use Rattle.segment_parser.specs.Entering.{over_all, AreEntered}
use Rattle.segment_parser.specs.Working.{held_of}

-- the state over entries with these kids and numbers, for each state that may stand below them, where that is an alive start
abbrev pub over_alive : List StateMap → ℕ → List Kid → List ℕ → ℕ → Option ℕ
over_alive maps starts kids ids q = (if is_some (target (map_at maps starts) q) then over_all (start_of (map_at maps starts)) (held_of maps kids ids) q else None)

-- the map with this number has the states over the first entries, so many, for the alive starts alone
pub record IsOver (maps new : List StateMap) (s : Leaf) (first id : ℕ) : Type 0 where
  pub within : id < length new
  pub targets : (q : ℕ) → target (map_at new id) q ≡ over_alive maps s.starts (take first s.block.kids) (take first s.ids.items) q

-- some entries, not the last one among them, have other numbers: those of the maps to which steps along their kids' symbols
-- lead from the states over the entries below, for the alive starts alone
pub record IsRewritten (t : Tables) (store : Store) (maps new : List StateMap) (s : Leaf) (again : List ℕ) : Type 0 where
  pub below : List Kid
  pub passed : List Kid
  pub above : List Kid
  pub kids : s.block.kids ≡ below ++ (passed ++ above)
  pub low : List ℕ
  pub old : List ℕ
  pub fresh : List ℕ
  pub rest : List ℕ
  pub ids : s.ids.items ≡ low ++ (old ++ rest)
  pub ids_again : again ≡ low ++ (fresh ++ rest)
  pub even_low : length below ≡ length low
  pub even : length passed ≡ length old
  pub some : 0 < length rest
  pub from : ℕ → Option ℕ
  pub over : (q : ℕ) → from q ≡ over_alive maps s.starts below low q
  pub entered : AreEntered t store from new passed fresh
