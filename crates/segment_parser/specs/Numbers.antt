-- The numbers of maps that a leaf works with. A table may have forgotten the maps of numbers below its base. Those of the last
-- floor's starts and of the last entry are never forgotten; maps over lower entries may be, and are found again.
-- Source: this project's own.
use Rattle.std.specs.Prelude.{◌≡◌, ℕ, ◌+◌, ◌<◌, ◌≤◌, ◌⊎◌, List, length, All, slice_index_or}
use Rattle.segment_parser.specs.declared.leaf.Leaf.{Leaf}
use Rattle.segment_parser.specs.Working.{last_id}

-- none of the numbers is below the base
abbrev pub AreFrom : ℕ → List ℕ → Type 0
AreFrom base ids = All {X = ℕ} (λ id. base ≤ id) ids

-- the maps that a step of the open piece looks at are kept: those of the last floor's starts and the one over the last entry
pub record Stands (base : ℕ) (s : Leaf) : Type 0 where
  pub starts : base ≤ s.starts
  pub own : base ≤ s.own
  pub top : 0 < length s.ids.items → base ≤ last_id s.ids.items

-- and so are the maps over all entries
pub record AllStand (base : ℕ) (s : Leaf) : Type 0 where
  pub starts : base ≤ s.starts
  pub own : base ≤ s.own
  pub entries : AreFrom base s.ids.items

-- places of entries whose maps are kept
abbrev pub AreKeptPlaces : ℕ → List ℕ → List ℕ → Type 0
AreKeptPlaces base ids places = All {X = ℕ} (λ place. (place < length ids) × (base ≤ slice_index_or ids place 0)) places

-- as many numbers; each is the one that was there before, or its place is one of these and it is the number for it
pub record ArePut (ids places numbers again : List ℕ) : Type 0 where
  pub even : length again ≡ length ids
  pub each : (j : ℕ) → j < length ids → (slice_index_or again j 0 ≡ slice_index_or ids j 0) ⊎ ((i : ℕ) × (i < length places) × (slice_index_or places i 0 ≡ j) × (slice_index_or again j 0 ≡ slice_index_or numbers i 0))

-- the numbers of the maps that are kept: those over the entries in some places, of the last floor's starts, of the starts each
-- to itself, and over the last entry
pub record IsKeepList (s : Leaf) (places keep : List ℕ) : Type 0 where
  pub count : length keep ≡ length places + 3
  pub entries : (i : ℕ) → i < length places → slice_index_or keep i 0 ≡ slice_index_or s.ids.items (slice_index_or places i 0) 0
  pub starts : slice_index_or keep (length places) 0 ≡ s.starts
  pub own : slice_index_or keep (length places + 1) 0 ≡ s.own
  pub top : slice_index_or keep (length places + 2) 0 ≡ last_id s.ids.items

-- the leaf has these numbers in the order of that list, and all else is the same
pub record IsRenumbered (s after : Leaf) (places numbers : List ℕ) : Type 0 where
  pub block : after.block ≡ s.block
  pub faults : after.faults ≡ s.faults
  pub opened : after.opened ≡ s.opened
  pub stale : after.stale ≡ s.stale
  pub first : after.first ≡ s.first
  pub count : after.count ≡ s.count
  pub starts : after.starts ≡ slice_index_or numbers (length places) 0
  pub own : after.own ≡ slice_index_or numbers (length places + 1) 0
  pub top : last_id after.ids.items ≡ slice_index_or numbers (length places + 2) 0
  pub entries : (j : ℕ) → j + 1 < length s.ids.items → (slice_index_or after.ids.items j 0 ≡ slice_index_or s.ids.items j 0) ⊎ ((i : ℕ) × (i < length places) × (slice_index_or places i 0 ≡ j) × (slice_index_or after.ids.items j 0 ≡ slice_index_or numbers i 0))
  pub even : length after.ids.items ≡ length s.ids.items
