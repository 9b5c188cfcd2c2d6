-- Pairs of numbers, which are looked up by their first.
use Rattle.std.specs.Prelude.{◌≡◌, ◌≢◌, ℕ, suc, ◌+◌, ◌<◌, ◌≤◌, ◌⊎◌, List, length, slice_index, slice_index_or, Contains}

abbrev pub key_at : List (ℕ × ℕ) → ℕ → ℕ
key_at pairs k = (slice_index_or pairs k (0, 0)).0

abbrev pub value_at : List (ℕ × ℕ) → ℕ → ℕ
value_at pairs k = (slice_index_or pairs k (0, 0)).1

abbrev pub HasPair : List (ℕ × ℕ) → ℕ → ℕ → Type 0
HasPair pairs key value = Contains pairs (key, value)

-- the pairs before `limit` that have the key end before `place`, with one of them if `place` isn't 0
pub record AreBefore (pairs : List (ℕ × ℕ)) (limit key place : ℕ) : Type 0 where
  pub within : place ≤ limit
  pub here : (k : ℕ) → place ≡ suc k → key_at pairs k ≡ key
  pub none : (k : ℕ) → place ≤ k → k < limit → key_at pairs k ≢ key

-- for each key below their count the place behind its last pair, and for each pair that behind the last one before it with its key
pub record IsLinked (pairs : List (ℕ × ℕ)) (limit : ℕ) (last before : List ℕ) : Type 0 where
  pub within : limit ≤ length pairs
  pub keys : (k : ℕ) → k < length pairs → key_at pairs k < length last
  pub long : length before ≡ limit
  pub lasts : (key : ℕ) → key < length last → AreBefore pairs limit key (slice_index last key)
  pub befores : (k : ℕ) → k < limit → AreBefore pairs k (key_at pairs k) (slice_index before k)

-- pairs, and how many keys may be looked up
pub record KeyedPairs : Type 0 where
  pub pairs : List (ℕ × ℕ)
  pub keys : ℕ

-- the values of a key were put to a list's end, in some order
pub record IsExtended (pairs : List (ℕ × ℕ)) (key : ℕ) (old new : List ℕ) : Type 0 where
  pub kept : (v : ℕ) → Contains old v → Contains new v
  pub added : (v : ℕ) → HasPair pairs key v → Contains new v
  pub only : (v : ℕ) → Contains new v → Contains old v ⊎ HasPair pairs key v
  pub few : length new ≤ length old + length pairs
