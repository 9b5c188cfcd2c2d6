-- The list of all maps that ever had a number in a table. Some of the first ones may be forgotten: contracts still see them, and
-- no number means another map.
use Rattle.std.specs.Prelude.{◌≡◌, ℕ, ◌<◌, ◌≤◌, List, ◌++◌, length, flat_map, slice_index}
use Rattle.map_theory.specs.Maps.{StateMap}
use Rattle.arrow_table.specs.Looks.{HasMap, map_at}

-- the maps that are forgotten, each time some more
abbrev pub forgotten_maps : List (List StateMap) → List StateMap
forgotten_maps forgotten = flat_map (λ maps. maps) forgotten

-- and behind them those that are kept
abbrev pub all_maps : List (List StateMap) → List StateMap → List StateMap
all_maps forgotten maps = forgotten_maps forgotten ++ maps

-- in the place of each number there is one that isn't below the base, and the number of the same map
pub record AreKept (old new : List StateMap) (base : ℕ) (ids again : List ℕ) : Type 0 where
  pub even : length again ≡ length ids
  pub stand : (i : ℕ) → i < length ids → base ≤ slice_index again i
  pub same : (i : ℕ) → i < length ids → HasMap new (slice_index again i) (λ map. map ≡ map_at old (slice_index ids i))
