-- An index of chunks by their numbers: a slot for each number, which is 0 where there is no such chunk, and else one more
-- than the chunk's place in the list.
use Rattle.std.specs.Prelude.{◌≡◌, ℕ, ◌+◌, ◌-◌, ◌<◌, ◌≤◌, List, length, slice_get, Some}

pub record IsIndexOf (slots numbers : List ℕ) : Type 0 where
  pub to_place : (number slot : ℕ) → slice_get slots number ≡ Some slot → 0 < slot → slice_get numbers (slot - 1) ≡ Some number
  pub to_slot : (place number : ℕ) → slice_get numbers place ≡ Some number → slice_get slots number ≡ Some (place + 1)

-- no number stands at two places
abbrev pub AreDistinct : List ℕ → Type 0
AreDistinct numbers = (i j number : ℕ) → slice_get numbers i ≡ Some number → slice_get numbers j ≡ Some number → i ≡ j

-- the numbers from a place on have slots
abbrev pub HaveSlots : List ℕ → ℕ → List ℕ → Type 0
HaveSlots slots from numbers = (place number : ℕ) → from ≤ place → slice_get numbers place ≡ Some number → number < length slots
