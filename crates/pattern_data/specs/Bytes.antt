-- Sets of bytes, as four words of 64 bits.
use Rattle.std.specs.Prelude.{◌≢◌, ℕ, ◌/◌, ◌%◌, ◌^◌, List, [], ◌∷◌, slice_index, slice_set, IsBitSet}

-- the byte is in the set that these words say: bit `byte % 64` of word `byte / 64` is set; the line feed is in no set
abbrev pub IsMember : List ℕ → ℕ → Type 0
IsMember words byte = (byte ≢ 10) × IsBitSet (slice_index words (byte / 64)) (byte % 64)

-- some bit is set, and none for the line feed
abbrev pub IsByteSet : List ℕ → Type 0
IsByteSet words = (words ≢ 0 ∷ 0 ∷ 0 ∷ 0 ∷ []) × (¬ (IsBitSet (slice_index words 0) 10))

-- the words of the set of one byte
unfoldable pub only_byte : ℕ → List ℕ
only_byte byte = slice_set (0 ∷ 0 ∷ 0 ∷ 0 ∷ []) (byte / 64) (2 ^ (byte % 64))
