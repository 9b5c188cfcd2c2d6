-- Sets of places by the bits of their words.
use Rattle.std.proofs.Common.{◌≡◌, ◌≢◌, ℕ, ◌+◌, ◌*◌, ◌/◌, ◌%◌, ◌^◌, ◌<◌, min, true, false, ◌==◌, inl, inr, List, length, get_or, set, bit_or, sym, ap, subst, ◌∙◌, arith, w64}
use Rattle.std.specs.Prelude.{◌&&◌, bit_and}
use Rattle.std.proofs.lemmas.Bool.{cases_eq, cases_lt, eq-eqb, ne_eqb}
use Rattle.std.proofs.lemmas.List.{length-set}
use Rattle.std.proofs.lemmas.List.Elements.{All-set, All-from_get_or}
use Rattle.std.proofs.lemmas.Nat.Bits.{bit_at-lt, bit_at-zero, bit_at-trailing_zeros, bit_at_and}
use Rattle.std.specs.Int.{bit_at, trailing_zeros}
use Rattle.std.specs.Int.Bits.{and_lt}
use Rattle.grammar_data.proofs.WordLemmas.{with_number, with_number-lt, no_number_past, joined-fit, number_at, equal_from_numbers}
use Rattle.position_sets.specs.Sets.{IsSetOfWords, has_place}

-- ---- one word changed
pub set_of_words-set : (size : ℕ) (words : List ℕ) (t : ℕ) → t < 64 * length words → IsSetOfWords size words → IsSetOfWords size (set words (t / 64) (with_number words t))
set_of_words-set size words t small h = record {
  size_is = length-set words (t / 64) (with_number words t) ∙ h.size_is;
  fit = All-set (λ word. word < 2 ^ 64) words (t / 64) (with_number words t) (with_number-lt words t h.fit small) h.fit;
}

-- ---- all words joined or met
pub min_is_one : (x y : ℕ) → x < 2 → y < 2 → (min x y == 1) ≡ ((x == 1) && (y == 1))
min_is_one x y small least =
    elim (cases_eq x 1) [
      | inl one ↦ ap (λ m. m == 1) (let m : min x y ≡ y = omega arith in m) ∙ sym (ap (λ b. b && (y == 1)) (eq-eqb x 1 one))
      | inr not_one ↦ ne_eqb (min x y) 1 (omega arith) ∙ sym (ap (λ b. b && (y == 1)) (ne_eqb x 1 not_one))
    ]

pub common_places : (set other both : List ℕ) → length set ≡ length other → length both ≡ length set
    → ((k : ℕ) → k < length set → get_or both k 0 ≡ bit_and (get_or set k 0) (get_or other k 0))
    → (a : ℕ) → has_place both a ≡ (has_place set a && has_place other a)
common_places set other both same size met a =
    elim (cases_lt (a / 64) (length set)) [
      | inl below ↦
          ap (λ x. bit_at x (a % 64) == 1) (met (a / 64) below)
          ∙ ap (λ x. x == 1) (bit_at_and (get_or set (a / 64) 0) (get_or other (a / 64) 0) (a % 64))
          ∙ min_is_one (bit_at (get_or set (a / 64) 0) (a % 64)) (bit_at (get_or other (a / 64) 0) (a % 64)) (bit_at-lt _ _) (bit_at-lt _ _)
      | inr past ↦
          no_number_past both a (omega arith) ∙ sym (ap (λ b. b && has_place other a) (no_number_past set a past))
    ]

pub union_set_of_words : (size : ℕ) (old other new : List ℕ) → length new ≡ length old → IsSetOfWords size old → IsSetOfWords size other
    → ((k : ℕ) → k < length other → get_or new k 0 ≡ bit_or (get_or old k 0) (get_or other k 0)) → IsSetOfWords size new
union_set_of_words size old other new same h j joined = record {
  size_is = same ∙ h.size_is;
  fit = joined-fit old other new (h.size_is ∙ sym j.size_is) same h.fit j.fit joined;
}

-- ---- sets with the same places
pub equal_from_places : (size : ℕ) (xs ys : List ℕ) → IsSetOfWords size xs → IsSetOfWords size ys → ((a : ℕ) → has_place xs a ≡ has_place ys a) → xs ≡ ys
equal_from_places size xs ys h j = equal_from_numbers xs ys (h.size_is ∙ sym j.size_is) h.fit j.fit

-- ---- words that meet
pub place_here : (words : List ℕ) (k i : ℕ) → i < 64 → bit_at (get_or words k 0) i ≡ 1 → has_place words (64 * k + i) ≡ true
place_here words k i below one = number_at words k i below ∙ eq-eqb _ 1 one

-- words of which the bits of both aren't all 0 have a place in common
pub words_meet : (set other : List ℕ) (k : ℕ) → bit_and (get_or set k 0) (get_or other k 0) < 2 ^ 64 → bit_and (get_or set k 0) (get_or other k 0) ≢ 0
    → (a : ℕ) × (has_place set a ≡ true) × (has_place other a ≡ true)
words_meet set other k small some =
    let x : ℕ = bit_and (get_or set k 0) (get_or other k 0) in
    let h = bit_at-trailing_zeros w64 x (omega arith) small in
    let i : ℕ = trailing_zeros w64 x in
    let both : bit_at x i ≡ min (bit_at (get_or set k 0) i) (bit_at (get_or other k 0) i) = bit_at_and (get_or set k 0) (get_or other k 0) i in
    let one : bit_at x i ≡ 1 = h.1 in
    let first : bit_at (get_or set k 0) i < 2 = bit_at-lt _ _ in
    let second : bit_at (get_or other k 0) i < 2 = bit_at-lt _ _ in
    (64 * k + i, place_here set k i h.0 (omega arith), place_here other k i h.0 (omega arith))

-- words of which the bits of both are all 0 have none
pub words_apart : (set other : List ℕ) → ((k : ℕ) → k < length set → bit_and (get_or set k 0) (get_or other k 0) ≡ 0) → (a : ℕ) → (has_place set a && has_place other a) ≡ false
words_apart set other none a =
    elim (cases_lt (a / 64) (length set)) [
      | inl below ↦
          sym (min_is_one (bit_at (get_or set (a / 64) 0) (a % 64)) (bit_at (get_or other (a / 64) 0) (a % 64)) (bit_at-lt _ _) (bit_at-lt _ _))
          ∙ sym (ap (λ x. x == 1) (bit_at_and (get_or set (a / 64) 0) (get_or other (a / 64) 0) (a % 64)))
          ∙ ap (λ x. bit_at x (a % 64) == 1) (none (a / 64) below) ∙ ap (λ x. x == 1) (bit_at-zero (a % 64))
      | inr past ↦ ap (λ b. b && has_place other a) (no_number_past set a past)
    ]

pub common_set_of_words : (size : ℕ) (set other both : List ℕ) → length both ≡ length set → IsSetOfWords size set → IsSetOfWords size other
    → ((k : ℕ) → k < length set → get_or both k 0 ≡ bit_and (get_or set k 0) (get_or other k 0)) → IsSetOfWords size both
common_set_of_words size set other both same h j met = record {
  size_is = same ∙ h.size_is;
  fit = All-from_get_or (λ word. word < 2 ^ 64) both 0 (λ i below.
      let within : i < length set = omega arith in
      subst (λ x. x < 2 ^ 64) (sym (met i within)) (and_lt 64 (get_or set i 0) (get_or other i 0) (h.fit i 0 within) (j.fit i 0 (omega (arith, h.size_is, j.size_is)))));
}
