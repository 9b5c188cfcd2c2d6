-- The kernels of the successors of a set of entries, and the keys by which kernels are found.
use Rattle.std.specs.Prelude.{◌≡◌, ℕ, ◌+◌, ◌<◌, ◌==◌, if◌then◌else◌, List, [], ◌∷◌, ◌++◌, length, slice_get, slice_index_or, slice_set, Option, Some, None}
use Rattle.std.specs.Option.{option_and_then}
use Rattle.std.specs.List.{filter_map}
use Rattle.collection_data.specs.declared.entry.Entry.{Entry}
use Rattle.item_sets.specs.declared.spot.Spot.{Spot}

-- the entry with the dot moved over the spot's symbol, if that stands in the column
abbrev pub moved_over : ℕ → Entry → Spot → Option Entry
moved_over column e spot = (if spot.column == column then Some (record e { dot = e.dot + 1 }) else None)

-- the entry with the dot moved over the symbol of the column, if that symbol stands behind the dot
abbrev pub moved_entry : List (List Spot) → ℕ → Entry → Option Entry
moved_entry rows column e = option_and_then (moved_over column e) (slice_get (slice_index_or rows e.rule []) e.dot)

abbrev pub moved_entries : List (List Spot) → ℕ → List Entry → List Entry
moved_entries rows column entries = filter_map (moved_entry rows column) entries

-- the kernels of all columns
pub record AreSuccessors (rows : List (List Spot)) (width : ℕ) (entries : List Entry) (kernels : List (List Entry)) : Type 0 where
  pub count : length kernels ≡ width
  pub each : (column : ℕ) → column < width → slice_index_or kernels column [] ≡ moved_entries rows column entries

-- the numbers that tell some entries
abbrev pub key_of : List Entry → List ℕ
key_of [] = []
key_of (e ∷ es) = e.rule ∷ (e.dot ∷ (e.ahead ++ key_of es))

-- the moved entry is put last in the kernel of the spot's column, if there is a spot
abbrev pub IsPushed : Option Spot → Entry → List (List Entry) → List (List Entry) → Type 0
IsPushed None e old new = new ≡ old
IsPushed (Some spot) e old new = new ≡ slice_set old spot.column (slice_index_or old spot.column [] ++ record e { dot = e.dot + 1 } ∷ [])
