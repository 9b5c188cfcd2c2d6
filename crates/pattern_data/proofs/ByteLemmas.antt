-- Sets of bytes by their bits: what is in the set of one byte, and the least byte of a set.
use Rattle.std.proofs.Common.{◌≡◌, ◌≢◌, ℕ, zero, suc, ◌+◌, ◌*◌, ◌/◌, ◌%◌, ◌^◌, ◌<◌, ◌≤◌, ◌↔◌, List, [], ◌∷◌, get_or, refl, sym, ap, ◌∙◌, subst, ⊎_elim, arith, get_or-set_same, get_or-set_other}
use Rattle.std.specs.Prelude.{bit_and, IsBitSet}
use Rattle.std.specs.Int.{bit_at, w64, trailing_zeros}
use Rattle.std.proofs.lemmas.Bool.{cases_eq, cases_lt}
use Rattle.std.proofs.lemmas.Nat.{pow_pos, pow_below}
use Rattle.std.proofs.lemmas.Nat.Bits.{and_pow, bit_at-zero, bit_at-pow_same, bit_at-pow_other, bit_at-trailing_zeros}
use Rattle.pattern_data.specs.Bytes.{IsMember, IsByteSet, only_byte}

-- the words of the empty set
abbrev pub no_bytes : List ℕ
no_bytes = 0 ∷ 0 ∷ 0 ∷ 0 ∷ []

pub no_bytes-word : (i : ℕ) → get_or no_bytes i 0 ≡ 0
no_bytes-word zero = refl
no_bytes-word (suc zero) = refl
no_bytes-word (suc (suc zero)) = refl
no_bytes-word (suc (suc (suc zero))) = refl
no_bytes-word (suc (suc (suc (suc i)))) = refl

-- a bit that is 1 is set, and one that is 0 isn't
pub IsBitSet-one : (n k : ℕ) → bit_at n k ≡ 1 → IsBitSet n k
IsBitSet-one n k e =
    λ none. let masked : bit_and n (2 ^ k) ≡ 1 * 2 ^ k = rw e at (and_pow n k) in let positive : 0 < 2 ^ k = pow_pos k in omega (arith, masked, none, positive)

pub IsBitSet-zero : (n k : ℕ) → bit_at n k ≡ 0 → IsBitSet n k → ⊥
IsBitSet-zero n k e is_set =
    let masked : bit_and n (2 ^ k) ≡ 0 * 2 ^ k = rw e at (and_pow n k) in is_set (omega (arith, masked))

-- a bit of a word that is 0 isn't set
pub IsBitSet-no_word : (n k : ℕ) → n ≡ 0 → IsBitSet n k → ⊥
IsBitSet-no_word n k e is_set = IsBitSet-zero 0 k (bit_at-zero k) (let P : ℕ → Type 0 = λ m. IsBitSet m k in subst P e is_set)

-- the word of the byte has the byte's bit alone, and the other words have none
pub only_byte-word_same : (byte : ℕ) → byte < 256 → get_or (only_byte byte) (byte / 64) 0 ≡ 2 ^ (byte % 64)
unfolding only_byte
only_byte-word_same byte below = get_or-set_same no_bytes (byte / 64) (2 ^ (byte % 64)) 0 (omega arith)

pub only_byte-word_other : (byte i : ℕ) → i ≢ byte / 64 → get_or (only_byte byte) i 0 ≡ 0
unfolding only_byte
only_byte-word_other byte i other = get_or-set_other no_bytes (byte / 64) i (2 ^ (byte % 64)) 0 other ∙ no_bytes-word i

only_byte-has : (byte : ℕ) → byte < 256 → IsBitSet (get_or (only_byte byte) (byte / 64) 0) (byte % 64)
only_byte-has byte below = rw (only_byte-word_same byte below) (IsBitSet-one (2 ^ (byte % 64)) (byte % 64) (bit_at-pow_same (byte % 64)))

only_byte-place : (byte other : ℕ) → byte < 256 → IsBitSet (get_or (only_byte byte) (other / 64) 0) (other % 64) → other / 64 ≡ byte / 64 → other % 64 ≡ byte % 64
only_byte-place byte other below is_set same =
    ⊎_elim (λ e. e)
    (λ differs. absurd (IsBitSet-zero (2 ^ (byte % 64)) (other % 64) (bit_at-pow_other (byte % 64) (other % 64) differs)
    (let P : ℕ → Type 0 = λ n. IsBitSet n (other % 64) in subst P (ap (λ i. get_or (only_byte byte) i 0) same ∙ only_byte-word_same byte below) is_set)))
    (cases_eq (other % 64) (byte % 64))

only_byte-only : (byte other : ℕ) → byte < 256 → IsBitSet (get_or (only_byte byte) (other / 64) 0) (other % 64) → other ≡ byte
only_byte-only byte other below is_set =
    ⊎_elim (λ same. let rest : other % 64 ≡ byte % 64 = only_byte-place byte other below is_set same in omega arith)
    (λ differs. absurd (IsBitSet-no_word _ (other % 64) (only_byte-word_other byte (other / 64) differs) is_set))
    (cases_eq (other / 64) (byte / 64))

-- the set of one byte has this byte and no other
pub only_byte-member : (byte other : ℕ) → byte < 256 → byte ≢ 10 → IsMember (only_byte byte) other ↔ (other ≡ byte)
only_byte-member byte other below no_feed = (
  λ member. only_byte-only byte other below member.1,
  λ same. let P : ℕ → Type 0 = λ b. IsMember (only_byte byte) b in subst P (sym same) (no_feed, only_byte-has byte below),
)

-- and it is the words of a set
pub only_byte-set : (byte : ℕ) → byte < 256 → byte ≢ 10 → IsByteSet (only_byte byte)
only_byte-set byte below no_feed = (
  λ none. IsBitSet-no_word _ (byte % 64) (ap (λ ws. get_or ws (byte / 64) 0) none ∙ no_bytes-word (byte / 64)) (only_byte-has byte below),
  λ is_set. no_feed (sym (only_byte-only byte 10 below is_set)),
)

-- one, shifted within a word
pub shifted_one : (byte : ℕ) → 1 * 2 ^ (byte % 64) % 2 ^ 64 ≡ 2 ^ (byte % 64)
shifted_one byte = let small : 2 ^ (byte % 64) < 2 ^ 64 = pow_below (byte % 64) 64 (omega arith) in omega (arith, small)

-- behind words that are 0, the lowest bit of a word that isn't 0 is the least byte
module _ (words : List ℕ) (i n : ℕ) (is_words : IsByteSet words) (word : get_or words i 0 ≡ n) (positive : 0 < n) (below : n < 2 ^ 64)
    (none : (k : ℕ) → k < i → get_or words k 0 ≡ 0) where
  lowest : (trailing_zeros w64 n < 64) × (bit_at n (trailing_zeros w64 n) ≡ 1) × ((k : ℕ) → k < trailing_zeros w64 n → bit_at n k ≡ 0)
  lowest = bit_at-trailing_zeros w64 n positive below

  pub first-set : (byte : ℕ) → byte ≡ 64 * i + trailing_zeros w64 n → IsBitSet (get_or words (byte / 64) 0) (byte % 64)
  first-set byte is =
      let zeros : ℕ = trailing_zeros w64 n in
      let few : trailing_zeros w64 n < 64 = lowest.0 in
      let place : byte / 64 ≡ i = omega (arith, is, few) in
      let bit : byte % 64 ≡ trailing_zeros w64 n = omega (arith, is, few) in
      rw (place, bit, word) (IsBitSet-one n (trailing_zeros w64 n) lowest.1)

  pub first-member : (byte : ℕ) → byte ≡ 64 * i + trailing_zeros w64 n → IsMember words byte
  first-member byte is = (
    λ feed. is_words.1 (let P : ℕ → Type 0 = λ b. IsBitSet (get_or words (b / 64) 0) (b % 64) in subst P feed (first-set byte is)),
    first-set byte is,
  )

  pub first-least : (byte : ℕ) → IsMember words byte → 64 * i + trailing_zeros w64 n ≤ byte
  first-least byte member =
      ⊎_elim (λ under. absurd
      (⊎_elim (λ lower. IsBitSet-no_word _ (byte % 64) (none (byte / 64) lower) member.1)
      (λ upper. let few : trailing_zeros w64 n < 64 = lowest.0 in
      let place : byte / 64 ≡ i = omega (arith, under, upper, few) in
      IsBitSet-zero n (byte % 64) (lowest.2 (byte % 64) (omega (arith, under, place)))
      (let P : ℕ → Type 0 = λ m. IsBitSet m (byte % 64) in subst P (ap (λ k. get_or words k 0) place ∙ word) member.1))
      (cases_lt (byte / 64) i)))
      (λ over. over)
      (cases_lt byte (64 * i + trailing_zeros w64 n))
