-- Sets of bytes by what they have.
use Rattle.std.specs.Prelude.{◌≡◌, ◌≢◌, ℕ, ◌/◌, ◌%◌, ◌<◌, ◌^◌, ◌↔◌, Bool, true, ◌==◌, List, length, All, slice_index}
use Rattle.std.specs.Int.{bit_at}
use Rattle.pattern_data.specs.Bytes.{IsMember, IsByteSet}

-- whether the byte's bit is set in the words
unfoldable pub has_bit : List ℕ → ℕ → Bool
has_bit words byte = bit_at (slice_index words (byte / 64)) (byte % 64) == 1

-- these four words of 64 bits are the set of the bytes for which the test says yes, but never of the line feed; the set
-- isn't empty
pub record IsSetOf (has : ℕ → Bool) (words : List ℕ) : Type 0 where
  pub is_set : IsByteSet words
  pub four : length words ≡ 4
  pub small : All (λ word. word < 2 ^ 64) words
  pub bytes : (byte : ℕ) → byte < 256 → IsMember words byte ↔ ((byte ≢ 10) × (has byte ≡ true))

-- the set of all bytes but the line feed
abbrev pub IsAnyByte : List ℕ → Type 0
IsAnyByte = IsSetOf (λ _. true)
