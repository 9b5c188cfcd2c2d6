-- Sets of tokens by the bits of their words.
use Rattle.std.proofs.Common.{◌≡◌, ◌≢◌, ℕ, zero, suc, ◌+◌, ◌*◌, ◌/◌, ◌%◌, ◌^◌, ◌<◌, Bool, true, false, ◌==◌, ◌||◌, ◌⊎◌, inl, inr, List, [], ◌∷◌, length, get_or, set, bit_or, MatchBool, refl, sym, ap, subst, ◌∙◌, arith, lit<}
use Rattle.std.proofs.lemmas.Bool.{cases_eq}
use Rattle.std.proofs.lemmas.List.{length-set}
use Rattle.std.proofs.lemmas.List.Elements.{All-set, All-from_get_or}
use Rattle.std.proofs.lemmas.Nat.{or_lt}
use Rattle.std.proofs.lemmas.Nat.Bits.{bit_at-lt, bit_at-zero, bit_at_or, same_from_bits_below}
use Rattle.std.specs.Int.{bit_at}
use Rattle.grammar_data.specs.TokenSet.{IsTokenSet, has_token}
use Rattle.grammar_data.proofs.WordLemmas.{with_number, with_number-lt, insert_numbers, joined_numbers, joined-fit, number_at, equal_from_numbers}

-- a bit that isn't 1 is 0
clear_bit : (x i : ℕ) → bit_at x i ≢ 1 → bit_at x i ≡ 0
clear_bit x i h = omega (arith, bit_at-lt x i)

-- ---- one word changed
pub IsTokenSet-set : (words : List ℕ) (i x : ℕ) → IsTokenSet words → x < 2 ^ 64 → IsTokenSet (set words i x)
IsTokenSet-set words i x h fits = record {
  four = length-set words i x ∙ h.four;
  fit = All-set (λ word. word < 2 ^ 64) words i x fits h.fit;
}

pub with_token-lt : (words : List ℕ) (t : ℕ) → IsTokenSet words → t < 256 → with_number words t < 2 ^ 64
with_token-lt words t h small = with_number-lt words t h.fit (omega (arith, h.four))

-- setting the bit of a token adds it
pub insert_members : (words : List ℕ) (t : ℕ) → IsTokenSet words → t < 256 → (a : ℕ)
    → has_token (set words (t / 64) (with_number words t)) a ≡ ((a == t) || has_token words a)
insert_members words t h small = insert_numbers words t (omega (arith, h.four))

-- ---- all words joined
pub IsTokenSet-joined : (old other new : List ℕ) → IsTokenSet old → IsTokenSet other → length new ≡ 4
    → ((k : ℕ) → k < 4 → get_or new k 0 ≡ bit_or (get_or old k 0) (get_or other k 0)) → IsTokenSet new
IsTokenSet-joined old other new h k four joined = record {
  four = four;
  fit = joined-fit old other new (h.four ∙ sym k.four) (four ∙ sym h.four) h.fit k.fit (λ i below. joined i (omega (arith, k.four)));
}

-- joining the words joins the sets
pub union_members : (old other new : List ℕ) → IsTokenSet old → IsTokenSet other → length new ≡ 4
    → ((k : ℕ) → k < 4 → get_or new k 0 ≡ bit_or (get_or old k 0) (get_or other k 0))
    → (a : ℕ) → has_token new a ≡ (has_token old a || has_token other a)
union_members old other new h k four joined =
    joined_numbers old other new (h.four ∙ sym k.four) (four ∙ sym h.four) (λ i below. joined i (omega (arith, k.four)))

-- among the first bits of the second word one is new to the first, or joining them changes none
new_bit : (n x y : ℕ) → ((i : ℕ) × (i < n) × (bit_at x i ≡ 0) × (bit_at y i ≡ 1)) ⊎ ((i : ℕ) → i < n → bit_at (bit_or x y) i ≡ bit_at x i)
new_bit zero x y = inr (λ i below. absurd (omega arith))
new_bit (suc n) x y =
    elim (new_bit n x y) [
      | inl found ↦ inl (found.0, omega (arith, found.1), found.2, found.3)
      | inr none ↦
          elim (cases_eq (bit_at x n) 1) [
            | inl set_before ↦ inr (λ i below. elim (cases_eq i n) [
              | inl last ↦ omega (arith, bit_at_or x y i, bit_at-lt y i, ap (bit_at x) last)
              | inr earlier ↦ none i (omega arith)
            ])
            | inr clear ↦
                elim (cases_eq (bit_at y n) 1) [
                  | inl new ↦ inl (n, omega arith, clear_bit x n clear, new)
                  | inr old ↦ inr (λ i below. elim (cases_eq i n) [
                    | inl last ↦ omega (arith, bit_at_or x y i, clear_bit y n old, clear_bit x n clear, ap (bit_at x) last, ap (bit_at y) last)
                    | inr earlier ↦ none i (omega arith)
                  ])
                ]
          ]
    ]

-- a word that joining changed got a new token
new_token : (old other new : List ℕ) → IsTokenSet old → IsTokenSet other
    → ((k : ℕ) → k < 4 → get_or new k 0 ≡ bit_or (get_or old k 0) (get_or other k 0))
    → (k : ℕ) → k < 4 → get_or new k 0 ≢ get_or old k 0 → (a : ℕ) × (has_token old a ≡ false) × (has_token other a ≡ true)
new_token old other new h j joined k below differs =
    elim (new_bit 64 (get_or old k 0) (get_or other k 0)) [
      | inl found ↦ (
        64 * k + found.0,
        number_at old k found.0 found.1 ∙ ap (λ x. x == 1) found.2,
        number_at other k found.0 found.1 ∙ ap (λ x. x == 1) found.3,
      )
      | inr none ↦
          let fits : get_or old k 0 < 2 ^ 64 = h.fit k 0 (omega (arith, h.four)) in
          let others : get_or other k 0 < 2 ^ 64 = j.fit k 0 (omega (arith, j.four)) in
          absurd (differs (joined k below ∙ same_from_bits_below 64 _ _ (or_lt 64 _ _ fits others) fits none))
    ]

-- joining tells whether a token is new
pub union_grew : (grew : Bool) (old other new : List ℕ) → IsTokenSet old → IsTokenSet other
    → ((k : ℕ) → k < 4 → get_or new k 0 ≡ bit_or (get_or old k 0) (get_or other k 0))
    → MatchBool grew ((k : ℕ) × (k < 4) × (get_or new k 0 ≢ get_or old k 0)) (new ≡ old)
    → MatchBool grew ((a : ℕ) × (has_token old a ≡ false) × (has_token other a ≡ true)) (new ≡ old)
union_grew true old other new h j joined changed = new_token old other new h j joined changed.0 changed.1 changed.2
union_grew false old other new h j joined same = same

-- ---- sets with the same members
pub equal_from_members : (xs ys : List ℕ) → IsTokenSet xs → IsTokenSet ys → ((a : ℕ) → has_token xs a ≡ has_token ys a) → xs ≡ ys
equal_from_members xs ys h j = equal_from_numbers xs ys (h.four ∙ sym j.four) h.fit j.fit

-- ---- the empty set
abbrev pub no_words : List ℕ
no_words = 0 ∷ 0 ∷ 0 ∷ 0 ∷ []

no_word : (k : ℕ) → get_or no_words k 0 ≡ 0
no_word zero = refl
no_word (suc zero) = refl
no_word (suc (suc zero)) = refl
no_word (suc (suc (suc zero))) = refl
no_word (suc (suc (suc (suc k)))) = refl

pub no_token : (a : ℕ) → has_token no_words a ≡ false
no_token a = ap (λ x. bit_at x (a % 64) == 1) (no_word (a / 64)) ∙ ap (λ x. x == 1) (bit_at-zero (a % 64))

pub IsTokenSet-no_words : IsTokenSet no_words
IsTokenSet-no_words = record {
  four = refl;
  fit = All-from_get_or (λ word. word < 2 ^ 64) no_words 0 (λ i below. subst (λ x. x < 2 ^ 64) (sym (no_word i)) (lit< tt));
}
