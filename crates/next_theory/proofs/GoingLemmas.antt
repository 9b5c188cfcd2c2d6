-- The small laws of going on.
use Rattle.std.proofs.Common.{◌≡◌, ℕ, zero, suc, ◌<◌, ◌≤◌, ◌⊎◌, inl, inr, ⊎_elim, List, [], ◌∷◌, ◌++◌, All, Contains, take, drop, get_or, refl, sym, subst, append_assoc, arith}
use Rattle.std.proofs.lemmas.List.{take-append-drop, get_or_append_left, length-append}
use Rattle.std.proofs.lemmas.Bool.{cases_lt}
use Rattle.std.proofs.lemmas.List.Elements.{All-contains}
use Rattle.std.proofs.lemmas.List.Kept.{AllPairs-from_increasing}
use Rattle.std.specs.List.{AllPairs}
use Rattle.grammar_data.specs.Grammar.{Grammar}
use Rattle.grammar_theory.specs.Rules.{IsInRange, end_mark}
use Rattle.grammar_theory.specs.Derivations.{IsSentence, GoesOn, goes_on, ends}
use Rattle.grammar_theory.proofs.StepLemmas.{derives_tokens_below}
use Rattle.grammar_theory.proofs.DerivationLaws.{goes_on_below}
use Rattle.grammar_theory.proofs.UsefulLemmas.{contains_first}
use Rattle.item_theory.specs.Items.{first_or}
use Rattle.next_theory.specs.GoingOn.{GoesOnAt, GoingRangeLaw, GoingFrontLaw, OneWrongPlaceLaw, NoWrongPlaceLaw, OneExpectedLaw}
use Rattle.next_theory.proofs.NextLemmas.{going}

-- ---- range and fronts

all_front : (P : ℕ → Type 0) (u v : List ℕ) → All P (u ++ v) → All P u
all_front P u v all k d within = subst P (get_or_append_left u v d k within) (all k d (let count = length-append u v in omega (arith, within, count)))

tokens_below : (g : Grammar) → IsInRange g → {w : List ℕ} → IsSentence g w → All (λ b. b < g.tokens) w
tokens_below g range d = derives_tokens_below g range tt d

pub going_range : (g : Grammar) → IsInRange g → {u : List ℕ} {a : ℕ} → GoesOn g u a → All (λ b. b < g.tokens) u × (a ≤ end_mark g)
going_range g range {u} {a} (goes_on v d) = (all_front (λ b. b < g.tokens) u (a ∷ v) (tokens_below g range d), (let less = goes_on_below g range u v a d in omega (arith, less)))
going_range g range (ends e d) = (tokens_below g range d, omega (arith, e))

pub going_range_law : GoingRangeLaw
going_range_law g range u a goes = going_range g range goes

pub going_front : (g : Grammar) (front back : List ℕ) (b : ℕ) {a : ℕ} → GoesOn g (front ++ b ∷ back) a → GoesOn g front b
going_front g front back b {a} (goes_on v d) = goes_on (back ++ a ∷ v) (subst (λ l. IsSentence g l) (append_assoc front (b ∷ back) (a ∷ v)) d)
going_front g front back b (ends e d) = goes_on back d

pub going_front_law : GoingFrontLaw
going_front_law g front back b a goes = going_front g front back b goes

-- ---- wrong places

pub one_wrong_place_law : OneWrongPlaceLaw
one_wrong_place_law g w i j first second = ⊎_elim (λ less. absurd (first.wrong (second.earlier i less))) (λ le. ⊎_elim (λ less. absurd (second.wrong (first.earlier j less))) (λ more. omega (arith, le, more)) (cases_lt j i)) (cases_lt i j)

first_dropped : (w : List ℕ) (i other : ℕ) → first_or other (drop i w) ≡ get_or w i other
first_dropped [] zero other = refl
first_dropped [] (suc i) other = refl
first_dropped (a ∷ w) zero other = refl
first_dropped (a ∷ w) (suc i) other = first_dropped w i other

pub sentence_goes_on : (g : Grammar) (w : List ℕ) (i : ℕ) → IsSentence g w → GoesOnAt g w i
sentence_goes_on g w i d = going g (take i w) (drop i w) (subst (λ l. IsSentence g l) (sym (take-append-drop i w)) d) (sym (first_dropped w i (end_mark g)))

pub no_wrong_place_law : NoWrongPlaceLaw
no_wrong_place_law g w i d wrong = wrong.wrong (sentence_goes_on g w i d)

-- ---- expected tokens

abbrev Rises : List ℕ → Type 0
Rises xs = AllPairs (λ x y. x < y) xs

contains_none : {a : ℕ} → Contains [] a → ⊥
contains_none (k, inside, at) = omega (arith, inside)

contains_cases : (x : ℕ) (xs : List ℕ) {a : ℕ} → Contains (x ∷ xs) a → (x ≡ a) ⊎ Contains xs a
contains_cases x xs (zero, inside, at) = inl at
contains_cases x xs (suc k, inside, at) = inr (k, omega (arith, inside), at)

contains_later : (x : ℕ) (xs : List ℕ) {a : ℕ} → Contains xs a → Contains (x ∷ xs) a
contains_later x xs (k, inside, at) = (suc k, omega (arith, inside), at)

rises_rest : (x : ℕ) (xs : List ℕ) → Rises (x ∷ xs) → Rises xs
rises_rest x xs h i j d less inside = h (suc i) (suc j) d (omega (arith, less)) (omega (arith, inside))

above_first : (x : ℕ) (xs : List ℕ) → Rises (x ∷ xs) → {a : ℕ} → Contains xs a → x < a
above_first x xs h {a} has = All-contains (λ y. x < y) xs a (λ k d inside. h zero (suc k) d (omega arith) (omega (arith, inside))) has

same_first : (x y : ℕ) (xs ys : List ℕ) → Rises (x ∷ xs) → Rises (y ∷ ys) → (y ≡ x) ⊎ Contains ys x → (x ≡ y) ⊎ Contains xs y → x ≡ y
same_first x y xs ys r s (inl e) other = sym e
same_first x y xs ys r s (inr has) (inl e) = e
same_first x y xs ys r s (inr has) (inr too) = let less = above_first y ys s has in let more = above_first x xs r too in absurd (omega (arith, less, more))

in_rest : (x y : ℕ) (xs ys : List ℕ) → Rises (x ∷ xs) → x ≡ y → {a : ℕ} → Contains xs a → (y ≡ a) ⊎ Contains ys a → Contains ys a
in_rest x y xs ys r e has (inl at) = let less = above_first x xs r has in absurd (omega (arith, less, at, e))
in_rest x y xs ys r e has (inr too) = too

pub same_rising : (xs ys : List ℕ) → Rises xs → Rises ys → ((a : ℕ) → Contains xs a → Contains ys a) → ((a : ℕ) → Contains ys a → Contains xs a) → xs ≡ ys
same_rising [] [] r s f h = refl
same_rising [] (y ∷ ys) r s f h = absurd (contains_none (h y (contains_first y ys)))
same_rising (x ∷ xs) [] r s f h = absurd (contains_none (f x (contains_first x xs)))
same_rising (x ∷ xs) (y ∷ ys) r s f h =
    let e = same_first x y xs ys r s (contains_cases y ys (f x (contains_first x xs))) (contains_cases x xs (h y (contains_first y ys))) in
    let rest = same_rising xs ys (rises_rest x xs r) (rises_rest y ys s)
    (λ a has. in_rest x y xs ys r e has (contains_cases y ys (f a (contains_later x xs has))))
    (λ a has. in_rest y x ys xs s (sym e) has (contains_cases x xs (h a (contains_later y ys has)))) in
    λ i. e i ∷ rest i

pub one_expected_law : OneExpectedLaw
one_expected_law g u tokens others first second =
    same_rising tokens others (AllPairs-from_increasing tokens first.rising) (AllPairs-from_increasing others second.rising)
    (λ a has. (second.exact a).1 ((first.exact a).0 has))
    (λ a has. (first.exact a).1 ((second.exact a).0 has))
