-- Sets of tokens below 256, as the four words of 64 bits that hold them.
use Rattle.std.specs.Prelude.{◌≡◌, ℕ, ◌/◌, ◌%◌, ◌^◌, ◌<◌, Bool, ◌==◌, List, length, slice_index, All}
use Rattle.std.specs.Int.{bit_at}

-- whether the token is in the set: whether its bit is 1
abbrev pub has_token : List ℕ → ℕ → Bool
has_token words a = bit_at (slice_index words (a / 64)) (a % 64) == 1

-- there are four words, each of 64 bits
pub record IsTokenSet (words : List ℕ) : Type 0 where
  pub four : length words ≡ 4
  pub fit : All (λ word. word < 2 ^ 64) words

-- sets with the same members are equal
abbrev pub AreEqualByMembers : Type 0
AreEqualByMembers = (xs ys : List ℕ) → IsTokenSet xs → IsTokenSet ys → ((a : ℕ) → has_token xs a ≡ has_token ys a) → xs ≡ ys
