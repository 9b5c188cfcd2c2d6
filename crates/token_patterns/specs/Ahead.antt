-- What comes behind a set of positions, and which positions read a byte.
use Rattle.std.specs.Prelude.{◌≡◌, ℕ, ◌+◌, ◌<◌, ◌≤◌, ◌↔◌, ◌⊎◌, List, slice_get, Some}
use Rattle.pattern_data.specs.Bytes.{IsMember}
use Rattle.position_sets.specs.declared.following.Position.{Position}
use Rattle.position_sets.specs.Sets.{Has}

-- the place comes behind a position of the set
pub record IsBehindOne (positions : List Position) (set : List ℕ) (place : ℕ) : Type 0 where
  pub q : ℕ
  pub row : Position
  pub at : slice_get positions q ≡ Some row
  pub has : Has set q
  pub next : Has row.next.items place

-- the place comes behind a position of the set, one of the first so many
abbrev pub IsBehindOneBelow : List Position → List ℕ → ℕ → ℕ → Type 0
IsBehindOneBelow positions set bound place = (h : IsBehindOne positions set place) × (h.q < bound)

-- the position reads the byte
pub record ReadsAt (positions : List Position) (byte q : ℕ) : Type 0 where
  pub row : Position
  pub at : slice_get positions q ≡ Some row
  pub member : IsMember row.bytes byte

-- the set has the positions that read the byte
abbrev pub IsMaskOf : List Position → ℕ → List ℕ → Type 0
IsMaskOf positions byte mask = (q : ℕ) → Has mask q ↔ ReadsAt positions byte q

-- the number that says that no pattern ends
abbrev pub no_rank : ℕ
no_rank = 65535

-- the least rank below the bound whose place, counted from `ends`, is in the set
abbrev pub IsLeastRank : List ℕ → ℕ → ℕ → ℕ → Type 0
IsLeastRank set ends ranks rank = (rank < ranks) × Has set (ends + rank) × ((other : ℕ) → other < ranks → Has set (ends + other) → rank ≤ other)

abbrev pub HasNoRank : List ℕ → ℕ → ℕ → Type 0
HasNoRank set ends ranks = (other : ℕ) → other < ranks → Has set (ends + other) → ⊥

abbrev pub IsFirstRank : List ℕ → ℕ → ℕ → ℕ → Type 0
IsFirstRank set ends ranks result = ((result ≡ no_rank) × HasNoRank set ends ranks) ⊎ IsLeastRank set ends ranks result
