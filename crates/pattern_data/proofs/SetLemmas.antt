-- Sets of bytes by their bits: one byte more, the other bytes, and words with the same bits.
use Rattle.std.proofs.Common.{◌≡◌, ◌≢◌, ℕ, zero, suc, ◌+◌, ◌-◌, ◌*◌, ◌/◌, ◌%◌, ◌^◌, ◌<◌, ◌≤◌, Bool, true, false, not, List, [], ◌∷◌, length, get_or, set, refl, sym, ap, ◌∙◌, subst, ⊎_elim, arith, get_or-set_same, get_or-set_other}
use Rattle.std.specs.Prelude.{◌==◌, ◌||◌, ◌&&◌, nat_le, nat_lt, bit_and, bit_or, IsBitSet, All}
use Rattle.std.specs.Int.{bit_at, bit_not, w64}
use Rattle.std.proofs.lemmas.Bool.{cases_eq, cases_Bool, eqb-true, eqb-false, eq-eqb, ne_eqb, false≢true, or_left, and_parts}
use Rattle.std.proofs.lemmas.Bool.Decides.{nat_tests}
use Rattle.std.proofs.lemmas.Nat.Bits.{bit_at-lt, bit_at_set_same, bit_at_set_other, bit_at_clear_same, bit_at_clear_other, bit_at_not, bit_at-zero, bit_at-pow_other, bit_at_ones, same_from_bits_below}
use Rattle.pattern_data.specs.Bytes.{IsMember, IsByteSet}
use Rattle.pattern_data.specs.Sets.{has_bit, IsSetOf}
use Rattle.pattern_data.proofs.ByteLemmas.{no_bytes, no_bytes-word, IsBitSet-one, IsBitSet-zero}

-- a word by its place, and a bit of it
has_bit-at : (words : List ℕ) (byte place k : ℕ) → byte / 64 ≡ place → byte % 64 ≡ k → has_bit words byte ≡ (bit_at (get_or words place 0) k == 1)
unfolding has_bit
has_bit-at words byte place k p e = ap (λ i. bit_at (get_or words i 0) (byte % 64) == 1) p ∙ ap (λ j. bit_at (get_or words place 0) j == 1) e

-- ---- one byte more
inserted_here : (words : List ℕ) (byte other : ℕ) → length words ≡ 4 → byte < 256 → other / 64 ≡ byte / 64 → has_bit (set words (byte / 64) (bit_or (get_or words (byte / 64) 0) (1 * 2 ^ (byte % 64) % 2 ^ 64))) other ≡ ((other == byte) || has_bit words other)
inserted_here words byte other four below place =
    let word : ℕ = get_or words (byte / 64) 0 in
    let more : ℕ = bit_or word (1 * 2 ^ (byte % 64) % 2 ^ 64) in
    let new : has_bit (set words (byte / 64) more) other ≡ (bit_at more (other % 64) == 1) =
    has_bit-at (set words (byte / 64) more) other (byte / 64) (other % 64) place refl ∙ ap (λ n. bit_at n (other % 64) == 1) (get_or-set_same words (byte / 64) more 0 (omega arith)) in
    let old : has_bit words other ≡ (bit_at word (other % 64) == 1) = has_bit-at words other (byte / 64) (other % 64) place refl in
    ⊎_elim
    (λ (same : other % 64 ≡ byte % 64). let is : other ≡ byte = omega arith in
    new ∙ ap (λ k. bit_at more k == 1) same ∙ ap (λ n. n == 1) (bit_at_set_same w64 word (byte % 64) (omega arith)) ∙ sym (or_left (other == byte) (has_bit words other) (eq-eqb other byte is)))
    (λ (differs : other % 64 ≡ byte % 64 → ⊥). let isnt : other ≡ byte → ⊥ = λ e. differs (ap (λ n. n % 64) e) in
    new ∙ ap (λ n. n == 1) (bit_at_set_other w64 word (byte % 64) (omega arith) (other % 64) differs) ∙ sym old ∙ sym (ap (λ t. t || has_bit words other) (ne_eqb other byte isnt)))
    (cases_eq (other % 64) (byte % 64))

pub inserted : (words : List ℕ) (byte other : ℕ) → length words ≡ 4 → byte < 256 → has_bit (set words (byte / 64) (bit_or (get_or words (byte / 64) 0) (1 * 2 ^ (byte % 64) % 2 ^ 64))) other ≡ ((other == byte) || has_bit words other)
inserted words byte other four below =
    let more : ℕ = bit_or (get_or words (byte / 64) 0) (1 * 2 ^ (byte % 64) % 2 ^ 64) in
    ⊎_elim
    (λ (same : other / 64 ≡ byte / 64). inserted_here words byte other four below same)
    (λ (differs : other / 64 ≡ byte / 64 → ⊥). let isnt : other ≡ byte → ⊥ = λ e. differs (ap (λ n. n / 64) e) in
    has_bit-at (set words (byte / 64) more) other (other / 64) (other % 64) refl refl ∙ ap (λ n. bit_at n (other % 64) == 1) (get_or-set_other words (byte / 64) (other / 64) more 0 differs)
    ∙ sym (has_bit-at words other (other / 64) (other % 64) refl refl) ∙ sym (ap (λ t. t || has_bit words other) (ne_eqb other byte isnt)))
    (cases_eq (other / 64) (byte / 64))

-- ---- the other bytes
bit_of_not : (bit : ℕ) → bit < 2 → (1 - bit == 1) ≡ not (bit == 1)
bit_of_not zero h = refl
bit_of_not (suc zero) h = refl
bit_of_not (suc (suc bit)) h = absurd (omega arith)

abbrev pub not_words : List ℕ → List ℕ
not_words words = (18446744073709551615 - get_or words 0 0) ∷ (18446744073709551615 - get_or words 1 0) ∷ (18446744073709551615 - get_or words 2 0) ∷ (18446744073709551615 - get_or words 3 0) ∷ []

not_words-word : (words : List ℕ) (i : ℕ) → i < 4 → get_or (not_words words) i 0 ≡ 18446744073709551615 - get_or words i 0
not_words-word words zero h = refl
not_words-word words (suc zero) h = refl
not_words-word words (suc (suc zero)) h = refl
not_words-word words (suc (suc (suc zero))) h = refl
not_words-word words (suc (suc (suc (suc i)))) h = absurd (omega arith)

pub not_words-bit : (words : List ℕ) (byte : ℕ) → ((i : ℕ) → i < 4 → get_or words i 0 < 2 ^ 64) → byte < 256 → has_bit (not_words words) byte ≡ not (has_bit words byte)
not_words-bit words byte small below =
    let place : byte / 64 < 4 = omega arith in
    let word : ℕ = get_or words (byte / 64) 0 in
    let turned : bit_at (bit_not w64 word) (byte % 64) ≡ 1 - bit_at word (byte % 64) = bit_at_not w64 word (byte % 64) (small (byte / 64) place) (omega arith) in
    has_bit-at (not_words words) byte (byte / 64) (byte % 64) refl refl ∙ ap (λ n. bit_at n (byte % 64) == 1) (not_words-word words (byte / 64) place)
    ∙ ap (λ n. n == 1) turned ∙ bit_of_not (bit_at word (byte % 64)) (bit_at-lt word (byte % 64)) ∙ sym (ap not (has_bit-at words byte (byte / 64) (byte % 64) refl refl))

-- ---- without the line feed
abbrev pub without_feed_words : List ℕ → List ℕ
without_feed_words words = bit_and (get_or words 0 0) 18446744073709550591 ∷ get_or words 1 0 ∷ get_or words 2 0 ∷ get_or words 3 0 ∷ []

without_feed-word : (words : List ℕ) (i : ℕ) → 0 < i → i < 4 → get_or (without_feed_words words) i 0 ≡ get_or words i 0
without_feed-word words zero some h = absurd (omega arith)
without_feed-word words (suc zero) some h = refl
without_feed-word words (suc (suc zero)) some h = refl
without_feed-word words (suc (suc (suc zero))) some h = refl
without_feed-word words (suc (suc (suc (suc i)))) some h = absurd (omega arith)

pub without_feed-bit : (words : List ℕ) (byte : ℕ) → byte < 256 → byte ≢ 10 → has_bit (without_feed_words words) byte ≡ has_bit words byte
without_feed-bit words byte below other =
    ⊎_elim
    (λ (first : byte / 64 ≡ 0). let isnt : byte % 64 ≢ 10 = λ e. other (omega arith) in
    has_bit-at (without_feed_words words) byte 0 (byte % 64) first refl ∙ ap (λ n. n == 1) (bit_at_clear_other w64 (get_or words 0 0) 10 (omega arith) (byte % 64) (omega arith) isnt) ∙ sym (has_bit-at words byte 0 (byte % 64) first refl))
    (λ (later : byte / 64 ≡ 0 → ⊥).
    has_bit-at (without_feed_words words) byte (byte / 64) (byte % 64) refl refl ∙ ap (λ n. bit_at n (byte % 64) == 1) (without_feed-word words (byte / 64) (omega arith) (omega arith)) ∙ sym (has_bit-at words byte (byte / 64) (byte % 64) refl refl))
    (cases_eq (byte / 64) 0)

pub without_feed-feed : (words : List ℕ) → IsBitSet (get_or (without_feed_words words) 0 0) 10 → ⊥
without_feed-feed words = IsBitSet-zero (bit_and (get_or words 0 0) 18446744073709550591) 10 (bit_at_clear_same w64 (get_or words 0 0) 10 (omega arith))

-- ---- members are the bytes whose bits are set
bit_is_one : (bit : ℕ) → (bit == 1) ≡ false → bit < 2 → bit ≡ 0
bit_is_one bit e h = let isnt = eqb-false bit 1 e in omega arith

pub member_from_bit : (words : List ℕ) (byte : ℕ) → byte ≢ 10 → has_bit words byte ≡ true → IsMember words byte
unfolding has_bit
member_from_bit words byte other e = (other, IsBitSet-one (get_or words (byte / 64) 0) (byte % 64) (eqb-true (bit_at (get_or words (byte / 64) 0) (byte % 64)) 1 e))

pub bit_from_member : (words : List ℕ) (byte : ℕ) → IsMember words byte → has_bit words byte ≡ true
unfolding has_bit
bit_from_member words byte member =
    ⊎_elim (λ e. e)
    (λ e. absurd (IsBitSet-zero (get_or words (byte / 64) 0) (byte % 64) (bit_is_one (bit_at (get_or words (byte / 64) 0) (byte % 64)) e (bit_at-lt (get_or words (byte / 64) 0) (byte % 64))) member.1))
    (cases_Bool (bit_at (get_or words (byte / 64) 0) (byte % 64) == 1))

pub no_feed_bit : (words : List ℕ) → (IsBitSet (get_or words 0 0) 10 → ⊥) → has_bit words 10 ≡ false
unfolding has_bit
no_feed_bit words none =
    ⊎_elim (λ e. absurd (none (IsBitSet-one (get_or words 0 0) 10 (eqb-true (bit_at (get_or words 0 0) 10) 1 e)))) (λ e. e) (cases_Bool (bit_at (get_or words 0 0) 10 == 1))

-- ---- words with the same bits
same_bit : (a b : ℕ) → a < 2 → b < 2 → (a == 1) ≡ (b == 1) → a ≡ b
same_bit zero zero h k e = refl
same_bit zero (suc zero) h k e = absurd (false≢true e)
same_bit (suc zero) zero h k e = absurd (false≢true (sym e))
same_bit (suc zero) (suc zero) h k e = refl
same_bit zero (suc (suc b)) h k e = absurd (omega arith)
same_bit (suc zero) (suc (suc b)) h k e = absurd (omega arith)
same_bit (suc (suc a)) b h k e = absurd (omega arith)

abbrev pub HaveSameBits : List ℕ → List ℕ → Type 0
HaveSameBits v w = (byte : ℕ) → byte < 256 → has_bit v byte ≡ has_bit w byte

same_word : (v w : List ℕ) (i : ℕ) → i < 4 → get_or v i 0 < 2 ^ 64 → get_or w i 0 < 2 ^ 64 → HaveSameBits v w → get_or v i 0 ≡ get_or w i 0
same_word v w i h vs ws same =
    same_from_bits_below 64 (get_or v i 0) (get_or w i 0) vs ws
    (λ k below. same_bit (bit_at (get_or v i 0) k) (bit_at (get_or w i 0) k) (bit_at-lt (get_or v i 0) k) (bit_at-lt (get_or w i 0) k)
    (sym (has_bit-at v (64 * i + k) i k (omega arith) (omega arith)) ∙ same (64 * i + k) (omega arith) ∙ has_bit-at w (64 * i + k) i k (omega arith) (omega arith)))

pub four_words : (v : List ℕ) → length v ≡ 4 → v ≡ get_or v 0 0 ∷ get_or v 1 0 ∷ get_or v 2 0 ∷ get_or v 3 0 ∷ []
four_words [] e = absurd (omega arith)
four_words (a ∷ []) e = absurd (omega arith)
four_words (a ∷ b ∷ []) e = absurd (omega arith)
four_words (a ∷ b ∷ c ∷ []) e = absurd (omega arith)
four_words (a ∷ b ∷ c ∷ d ∷ []) e = refl
four_words (a ∷ b ∷ c ∷ d ∷ f ∷ v) e = absurd (omega arith)

pub same_list : (a b c d p q r s : ℕ) → a ≡ p → b ≡ q → c ≡ r → d ≡ s → a ∷ b ∷ c ∷ d ∷ [] ≡ p ∷ q ∷ r ∷ s ∷ []
same_list a b c d p q r s h i j k = cc

pub same_words : (v w : List ℕ) → length v ≡ 4 → length w ≡ 4 → All (λ n. n < 2 ^ 64) v → All (λ n. n < 2 ^ 64) w → HaveSameBits v w → v ≡ w
same_words v w vf wf vs ws same =
    let word : (i : ℕ) → i < 4 → get_or v i 0 ≡ get_or w i 0 = λ i h. same_word v w i h (vs i 0 (omega arith)) (ws i 0 (omega arith)) same in
    four_words v vf ∙ same_list _ _ _ _ _ _ _ _ (word 0 (omega arith)) (word 1 (omega arith)) (word 2 (omega arith)) (word 3 (omega arith)) ∙ sym (four_words w wf)

-- ---- sets of what a test says
pub iff_true : (a b : Bool) → (a ≡ true → b ≡ true) → (b ≡ true → a ≡ true) → a ≡ b
iff_true true true f g = refl
iff_true true false f g = absurd (false≢true (f refl))
iff_true false true f g = absurd (false≢true (g refl))
iff_true false false f g = refl

pub set_from : (words : List ℕ) (has : ℕ → Bool) → IsByteSet words → length words ≡ 4 → All (λ n. n < 2 ^ 64) words → ((byte : ℕ) → byte < 256 → byte ≢ 10 → has_bit words byte ≡ has byte) → IsSetOf has words
set_from words has is_set four small bits = record {
  is_set = is_set;
  four = four;
  small = small;
  bytes = λ byte below. (λ member. (member.0, sym (bits byte below member.0) ∙ bit_from_member words byte member), λ known. member_from_bit words byte known.0 (bits byte below known.0 ∙ known.1));
}

set_bits : (has : ℕ → Bool) (v w : List ℕ) → IsSetOf has v → IsSetOf has w → (byte : ℕ) → byte < 256 → has_bit v byte ≡ true → has_bit w byte ≡ true
set_bits has v w hv hw byte below e =
    ⊎_elim
    (λ (feed : byte ≡ 10). absurd (false≢true (sym (no_feed_bit v hv.is_set.1) ∙ ap (has_bit v) (sym feed) ∙ e)))
    (λ (other : byte ≡ 10 → ⊥). bit_from_member w byte ((hw.bytes byte below).1 ((hv.bytes byte below).0 (member_from_bit v byte other e))))
    (cases_eq byte 10)

-- at most one set has these bytes
pub set_once : (has : ℕ → Bool) (v w : List ℕ) → IsSetOf has v → IsSetOf has w → v ≡ w
set_once has v w hv hw =
    same_words v w hv.four hw.four hv.small hw.small (λ byte below. iff_true (has_bit v byte) (has_bit w byte) (set_bits has v w hv hw byte below) (set_bits has w v hw hv byte below))

pub no_bytes-bit : (byte : ℕ) → has_bit no_bytes byte ≡ false
no_bytes-bit byte = has_bit-at no_bytes byte (byte / 64) (byte % 64) refl refl ∙ ap (λ n. bit_at n (byte % 64) == 1) (no_bytes-word (byte / 64)) ∙ ap (λ n. n == 1) (bit_at-zero (byte % 64))

pub no_bytes-small : All (λ n. n < 2 ^ 64) no_bytes
no_bytes-small k d below = let e : get_or no_bytes k d ≡ 0 = inside k d below in omega (arith, e)
  where
    inside : (k d : ℕ) → k < 4 → get_or no_bytes k d ≡ 0
    inside zero d h = refl
    inside (suc zero) d h = refl
    inside (suc (suc zero)) d h = refl
    inside (suc (suc (suc zero))) d h = refl
    inside (suc (suc (suc (suc k)))) d h = absurd (omega arith)

-- where the words have no byte but the line feed, there is no set
pub no_set : (words : List ℕ) (has : ℕ → Bool) → words ≡ no_bytes → ((byte : ℕ) → byte < 256 → byte ≢ 10 → has_bit words byte ≡ has byte) → (set : List ℕ) → IsSetOf has set → ⊥
no_set words has none bits set h =
    h.is_set.0
    (same_words set no_bytes h.four refl h.small no_bytes-small
    (λ byte below. iff_true (has_bit set byte) (has_bit no_bytes byte)
    (λ e. ⊎_elim
    (λ (feed : byte ≡ 10). absurd (false≢true (sym (no_feed_bit set h.is_set.1) ∙ ap (has_bit set) (sym feed) ∙ e)))
    (λ (other : byte ≡ 10 → ⊥). ap (λ ws. has_bit ws byte) (sym none) ∙ bits byte below other ∙ ((h.bytes byte below).0 (member_from_bit set byte other e)).1)
    (cases_eq byte 10))
    (λ e. absurd (false≢true (sym (no_bytes-bit byte) ∙ e)))))

-- ---- words below their bound
pub small_words : (words : List ℕ) → get_or words 0 0 < 2 ^ 64 → get_or words 1 0 < 2 ^ 64 → get_or words 2 0 < 2 ^ 64 → get_or words 3 0 < 2 ^ 64 → (i : ℕ) → i < 4 → get_or words i 0 < 2 ^ 64
small_words words a b c d zero h = a
small_words words a b c d (suc zero) h = b
small_words words a b c d (suc (suc zero)) h = c
small_words words a b c d (suc (suc (suc zero))) h = d
small_words words a b c d (suc (suc (suc (suc i)))) h = absurd (omega arith)

pub all_small : (a b c d : ℕ) → a < 2 ^ 64 → b < 2 ^ 64 → c < 2 ^ 64 → d < 2 ^ 64 → All (λ n. n < 2 ^ 64) (a ∷ b ∷ c ∷ d ∷ [])
all_small a b c d ha hb hc hd zero x h = ha
all_small a b c d ha hb hc hd (suc zero) x h = hb
all_small a b c d ha hb hc hd (suc (suc zero)) x h = hc
all_small a b c d ha hb hc hd (suc (suc (suc zero))) x h = hd
all_small a b c d ha hb hc hd (suc (suc (suc (suc i)))) x h = absurd (omega arith)

-- ---- a range, byte by byte
pub ranged_more : (low high at other : ℕ) (old : Bool) → low ≤ at → at ≤ high → ((other == at) || (((nat_le low other && nat_le other high) && nat_lt other at) || old)) ≡ (((nat_le low other && nat_le other high) && nat_lt other (at + 1)) || old)
ranged_more low high at other old h k = grind (arith, nat_tests)

pub ranged_all : (low high at other : ℕ) (old : Bool) → high + 1 ≤ at → (((nat_le low other && nat_le other high) && nat_lt other at) || old) ≡ ((nat_le low other && nat_le other high) || old)
ranged_all low high at other old h = grind (arith, nat_tests)

-- ---- every byte
abbrev pub any_words : List ℕ
any_words = 18446744073709550591 ∷ 18446744073709551615 ∷ 18446744073709551615 ∷ 18446744073709551615 ∷ []

any_word : (i : ℕ) → 0 < i → i < 4 → get_or any_words i 0 ≡ 2 ^ 64 - 1
any_word zero some h = absurd (omega arith)
any_word (suc zero) some h = refl
any_word (suc (suc zero)) some h = refl
any_word (suc (suc (suc zero))) some h = refl
any_word (suc (suc (suc (suc i)))) some h = absurd (omega arith)

any_bit : (byte : ℕ) → byte < 256 → byte ≢ 10 → has_bit any_words byte ≡ true
any_bit byte below other =
    ⊎_elim
    (λ (first : byte / 64 ≡ 0). let isnt : byte % 64 ≢ 10 = λ e. other (omega arith) in
    let bit : bit_at (bit_not w64 1024) (byte % 64) ≡ 1 - bit_at (2 ^ 10) (byte % 64) = bit_at_not w64 1024 (byte % 64) (omega arith) (omega arith) in
    has_bit-at any_words byte 0 (byte % 64) first refl ∙ ap (λ n. n == 1) bit ∙ ap (λ n. 1 - n == 1) (bit_at-pow_other 10 (byte % 64) isnt))
    (λ (later : byte / 64 ≡ 0 → ⊥).
    has_bit-at any_words byte (byte / 64) (byte % 64) refl refl ∙ ap (λ n. bit_at n (byte % 64) == 1) (any_word (byte / 64) (omega arith) (omega arith)) ∙ ap (λ n. n == 1) (bit_at_ones 64 (byte % 64) (omega arith)))
    (cases_eq (byte / 64) 0)

any_is_set : IsByteSet any_words
any_is_set = (λ e. absurd (cc), IsBitSet-zero 18446744073709550591 10 refl)

pub any_has : IsSetOf (λ _. true) any_words
any_has = set_from any_words (λ _. true) any_is_set refl (all_small _ _ _ _ (omega arith) (omega arith) (omega arith) (omega arith)) any_bit

-- ---- no byte at all
pub zero_words : (a b c d : ℕ) → ((a == 0) && ((b == 0) && ((c == 0) && ((d == 0) && true)))) ≡ true → a ∷ b ∷ c ∷ d ∷ [] ≡ no_bytes
zero_words a b c d e =
    let one = and_parts (a == 0) ((b == 0) && ((c == 0) && ((d == 0) && true))) e in
    let two = and_parts (b == 0) ((c == 0) && ((d == 0) && true)) one.1 in
    let three = and_parts (c == 0) ((d == 0) && true) two.1 in
    let four = and_parts (d == 0) true three.1 in
    same_list _ _ _ _ _ _ _ _ (eqb-true a 0 one.0) (eqb-true b 0 two.0) (eqb-true c 0 three.0) (eqb-true d 0 four.0)

pub words_zero : (a b c d : ℕ) → ((a == 0) && ((b == 0) && ((c == 0) && ((d == 0) && true)))) ≡ false → a ∷ b ∷ c ∷ d ∷ [] ≡ no_bytes → ⊥
words_zero a b c d e is =
    let P : List ℕ → Type 0 = λ l. ((get_or l 0 1 == 0) && ((get_or l 1 1 == 0) && ((get_or l 2 1 == 0) && ((get_or l 3 1 == 0) && true)))) ≡ false in
    let f : true ≡ false = subst P is e in false≢true (sym f)
