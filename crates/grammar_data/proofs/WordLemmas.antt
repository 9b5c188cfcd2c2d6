-- Sets of numbers by the bits of their words, however many words there are.
use Rattle.std.proofs.Common.{◌≡◌, ℕ, ◌+◌, ◌*◌, ◌/◌, ◌%◌, ◌^◌, ◌<◌, ◌≤◌, max, true, false, ◌==◌, ◌||◌, inl, inr, List, length, get_or, set, bit_or, sym, ap, subst, ◌∙◌, arith, w64, mod-lt, lit<}
use Rattle.std.specs.Prelude.{All}
use Rattle.std.proofs.lemmas.Bool.{cases_eq, cases_lt, eq-eqb, eqb-true, ne_eqb, false≢true}
use Rattle.std.proofs.lemmas.List.{get_or-set_same, get_or-set_other, get_or_past, ext_get_or}
use Rattle.std.proofs.lemmas.List.Elements.{All-from_get_or}
use Rattle.std.proofs.lemmas.Nat.{or_lt}
use Rattle.std.proofs.lemmas.Nat.Bits.{bit_at-lt, bit_at-zero, bit_at_or, bit_at_set_same, bit_at_set_other, same_from_bits_below}
use Rattle.std.specs.Int.{bit_at}
use Rattle.grammar_data.specs.TokenSet.{has_token}

-- each word has 64 bits
abbrev pub AreFit : List ℕ → Type 0
AreFit words = All (λ word. word < 2 ^ 64) words

-- ---- one word changed
-- the word of a number, after its bit was set
abbrev pub with_number : List ℕ → ℕ → ℕ
with_number words t = bit_or (get_or words (t / 64) 0) (1 * 2 ^ (t % 64) % 2 ^ 64)

pub with_number-lt : (words : List ℕ) (t : ℕ) → AreFit words → t < 64 * length words → with_number words t < 2 ^ 64
with_number-lt words t fit small = or_lt 64 _ _ (fit (t / 64) 0 (omega arith)) (mod-lt (1 * 2 ^ (t % 64)) (lit< tt))

-- setting the bit of a number adds it
pub insert_numbers : (words : List ℕ) (t : ℕ) → t < 64 * length words → (a : ℕ)
    → has_token (set words (t / 64) (with_number words t)) a ≡ ((a == t) || has_token words a)
insert_numbers words t small a =
    let within : t / 64 < length words = omega arith in
    elim (cases_eq (a / 64) (t / 64)) [
      | inl word ↦
          let here : get_or (set words (t / 64) (with_number words t)) (a / 64) 0 ≡ with_number words t =
          ap (λ k. get_or (set words (t / 64) (with_number words t)) k 0) word ∙ get_or-set_same words (t / 64) (with_number words t) 0 within in
          elim (cases_eq (a % 64) (t % 64)) [
            | inl bit ↦
                let one : bit_at (get_or (set words (t / 64) (with_number words t)) (a / 64) 0) (a % 64) ≡ 1 =
                ap (λ x. bit_at x (a % 64)) here ∙ ap (bit_at (with_number words t)) bit ∙ bit_at_set_same w64 (get_or words (t / 64) 0) (t % 64) (omega arith) in
                let is_number : (a == t) ≡ true = eq-eqb a t (omega arith) in
                ap (λ x. x == 1) one ∙ sym (ap (λ b. b || has_token words a) is_number)
            | inr other ↦
                let kept : bit_at (get_or (set words (t / 64) (with_number words t)) (a / 64) 0) (a % 64) ≡ bit_at (get_or words (a / 64) 0) (a % 64) =
                ap (λ x. bit_at x (a % 64)) here ∙ bit_at_set_other w64 (get_or words (t / 64) 0) (t % 64) (omega arith) (a % 64) other
                ∙ ap (λ k. bit_at (get_or words k 0) (a % 64)) (sym word) in
                let is_other : (a == t) ≡ false = ne_eqb a t (λ same. other (ap (λ n. n % 64) same)) in
                ap (λ x. x == 1) kept ∙ sym (ap (λ b. b || has_token words a) is_other)
          ]
      | inr other ↦
          let is_other : (a == t) ≡ false = ne_eqb a t (λ same. other (ap (λ n. n / 64) same)) in
          ap (λ x. bit_at x (a % 64) == 1) (get_or-set_other words (t / 64) (a / 64) (with_number words t) 0 other)
          ∙ sym (ap (λ b. b || has_token words a) is_other)
    ]

-- ---- all words joined
-- the greater of two bits is 1 where one of them is
pub max_is_one : (x y : ℕ) → x < 2 → y < 2 → (max x y == 1) ≡ ((x == 1) || (y == 1))
max_is_one x y small least =
    elim (cases_eq x 1) [
      | inl one ↦ eq-eqb (max x y) 1 (omega arith) ∙ sym (ap (λ b. b || (y == 1)) (eq-eqb x 1 one))
      | inr not_one ↦ ap (λ m. m == 1) (let m : max x y ≡ y = omega arith in m) ∙ sym (ap (λ b. b || (y == 1)) (ne_eqb x 1 not_one))
    ]

pub no_number_past : (words : List ℕ) (a : ℕ) → length words ≤ a / 64 → has_token words a ≡ false
no_number_past words a past =
    ap (λ x. bit_at x (a % 64) == 1) (get_or_past words (a / 64) 0 past) ∙ ap (λ x. x == 1) (bit_at-zero (a % 64))

-- joining the words joins the sets
pub joined_numbers : (old other new : List ℕ) → length old ≡ length other → length new ≡ length old
    → ((k : ℕ) → k < length other → get_or new k 0 ≡ bit_or (get_or old k 0) (get_or other k 0))
    → (a : ℕ) → has_token new a ≡ (has_token old a || has_token other a)
joined_numbers old other new same size joined a =
    elim (cases_lt (a / 64) (length other)) [
      | inl below ↦
          ap (λ x. bit_at x (a % 64) == 1) (joined (a / 64) below)
          ∙ ap (λ x. x == 1) (bit_at_or (get_or old (a / 64) 0) (get_or other (a / 64) 0) (a % 64))
          ∙ max_is_one (bit_at (get_or old (a / 64) 0) (a % 64)) (bit_at (get_or other (a / 64) 0) (a % 64)) (bit_at-lt _ _) (bit_at-lt _ _)
      | inr past ↦
          no_number_past new a (omega arith) ∙ sym (ap (λ b. b || has_token other a) (no_number_past old a (omega arith)) ∙ no_number_past other a past)
    ]

pub joined-fit : (old other new : List ℕ) → length old ≡ length other → length new ≡ length old → AreFit old → AreFit other
    → ((k : ℕ) → k < length other → get_or new k 0 ≡ bit_or (get_or old k 0) (get_or other k 0)) → AreFit new
joined-fit old other new same size h j joined =
    All-from_get_or (λ word. word < 2 ^ 64) new 0 (λ i below.
    let within : i < length other = omega (arith, same, size) in
    subst (λ x. x < 2 ^ 64) (sym (joined i within)) (or_lt 64 _ _ (h i 0 (omega (arith, same, size))) (j i 0 within)))

-- ---- sets with the same members
same_bit : (x y : ℕ) → x < 2 → y < 2 → (x == 1) ≡ (y == 1) → x ≡ y
same_bit x y small least same =
    elim (cases_eq x 1) [
      | inl one ↦ one ∙ sym (eqb-true y 1 (sym same ∙ eq-eqb x 1 one))
      | inr not_one ↦
          elim (cases_eq y 1) [
            | inl one ↦ absurd (false≢true (sym (ne_eqb x 1 not_one) ∙ same ∙ eq-eqb y 1 one))
            | inr neither ↦ omega arith
          ]
    ]

-- the word and the bit of a number
pub number_at : (words : List ℕ) (k i : ℕ) → i < 64 → has_token words (64 * k + i) ≡ (bit_at (get_or words k 0) i == 1)
number_at words k i below =
    let word : (64 * k + i) / 64 ≡ k = omega arith in
    let bit : (64 * k + i) % 64 ≡ i = omega arith in
    ap (λ n. bit_at (get_or words n 0) ((64 * k + i) % 64) == 1) word ∙ ap (λ n. bit_at (get_or words k 0) n == 1) bit

pub equal_from_numbers : (xs ys : List ℕ) → length xs ≡ length ys → AreFit xs → AreFit ys → ((a : ℕ) → has_token xs a ≡ has_token ys a) → xs ≡ ys
equal_from_numbers xs ys size h j same =
    ext_get_or 0 xs ys size (λ k below.
    same_from_bits_below 64 _ _ (h k 0 below) (j k 0 (omega (arith, size))) (λ i small.
    same_bit (bit_at (get_or xs k 0) i) (bit_at (get_or ys k 0) i) (bit_at-lt _ _) (bit_at-lt _ _)
    (sym (number_at xs k i small) ∙ same (64 * k + i) ∙ number_at ys k i small)))
