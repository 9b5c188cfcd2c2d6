-- Sets of places as lists of words of 64 bits.
use Rattle.std.specs.Prelude.{◌≡◌, ℕ, ◌/◌, ◌%◌, ◌<◌, ◌^◌, Bool, true, ◌==◌, List, length, slice_index, All}
use Rattle.std.specs.Int.{bit_at}

-- whether the place is in the set: whether bit `place % 64` of word `place / 64` is 1
abbrev pub has_place : List ℕ → ℕ → Bool
has_place words place = bit_at (slice_index words (place / 64)) (place % 64) == 1

-- the place is in the set
abbrev pub Has : List ℕ → ℕ → Type 0
Has words place = has_place words place ≡ true

-- a set of this many words
pub record IsSetOfWords (size : ℕ) (words : List ℕ) : Type 0 where
  pub size_is : length words ≡ size
  pub fit : All (λ word. word < 2 ^ 64) words

-- sets of as many words with the same places are equal
abbrev pub EqualByPlacesLaw : Type 0
EqualByPlacesLaw = (size : ℕ) (xs ys : List ℕ) → IsSetOfWords size xs → IsSetOfWords size ys → ((place : ℕ) → has_place xs place ≡ has_place ys place) → xs ≡ ys
