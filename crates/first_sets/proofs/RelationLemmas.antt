-- Pairs, linked by their keys.
use Rattle.std.proofs.Common.{◌↔◌, ◌≡◌, ℕ, suc, ◌+◌, ◌*◌, ◌<◌, ◌≤◌, ◌⊎◌, inl, inr, List, [], ◌∷◌, ◌++◌, length, Contains, sym, ap, subst, ◌∙◌, arith}
use Rattle.std.proofs.lemmas.Bool.{cases_lt, cases_eq}
use Rattle.std.proofs.lemmas.List.{length-append, get_or_default}
use Rattle.std.proofs.lemmas.List.Elements.{Contains-push, Contains-push_cases, Contains-append_left}
use Rattle.first_sets.specs.Relations.{key_at, value_at, HasPair, AreBefore}

-- ---- linking

before_none : (pairs : List (ℕ × ℕ)) (key : ℕ) → AreBefore pairs 0 key 0
before_none pairs key = record { within = omega arith; here = λ k is. absurd (omega arith); none = λ k low high. absurd (omega arith) }

-- ---- the values of a key

-- the values of the pairs from `place` on are pushed, and the pairs of the key before it end there
pub record IsPushing (pairs : List (ℕ × ℕ)) (key place : ℕ) (old new : List ℕ) : Type 0 where
  pub within : place ≤ length pairs
  pub here : (k : ℕ) → place ≡ suc k → key_at pairs k ≡ key
  pub kept : (v : ℕ) → Contains old v → Contains new v
  pub added : (k : ℕ) → place ≤ k → k < length pairs → key_at pairs k ≡ key → Contains new (value_at pairs k)
  pub only : (v : ℕ) → Contains new v → Contains old v ⊎ HasPair pairs key v
  pub few : length new + place ≤ length old + length pairs

pair_at : (pairs : List (ℕ × ℕ)) (k key : ℕ) → k < length pairs → key_at pairs k ≡ key → HasPair pairs key (value_at pairs k)
pair_at pairs k key inside is =
    (k, inside, get_or_default pairs k (key, value_at pairs k) (0, 0) inside ∙ ap (λ n. (n, value_at pairs k)) is)

pub push_more : (pairs : List (ℕ × ℕ)) (limit key k place : ℕ) (old new : List ℕ) → limit ≡ suc k → AreBefore pairs k (key_at pairs k) place → IsPushing pairs key limit old new
    → IsPushing pairs key place old (new ++ value_at pairs k ∷ [])
push_more pairs limit key k place old new at b p =
    let is : key_at pairs k ≡ key = p.here k at in
    let last = value_at pairs k in
    record {
      within = omega (arith, b.within, p.within);
      here = λ j e. b.here j e ∙ is;
      kept = λ v has. Contains-append_left new (last ∷ []) v (p.kept v has);
      added = λ j low high same. elim (cases_eq j k) [
        | inl e ↦ subst (λ n. Contains (new ++ last ∷ []) (value_at pairs n)) (sym e) (Contains-push new last)
        | inr ne ↦ elim (cases_lt j k) [
          | inl less ↦ absurd (b.none j low less (same ∙ sym is))
          | inr more ↦ Contains-append_left new (last ∷ []) (value_at pairs j) (p.added j (omega arith) high same)
        ]
      ];
      only = λ v has. elim (Contains-push_cases new last v has) [
        | inl before ↦ p.only v before
        | inr e ↦ inr (subst (λ n. HasPair pairs key n) e (pair_at pairs k key (omega (arith, p.within)) is))
      ];
      few = omega (arith, b.within, p.few, length-append new (last ∷ []));
    }

-- ---- numbers one after another

pub numbers_more : (numbers : List ℕ) (count : ℕ) → ((n : ℕ) → Contains numbers n ↔ n < count) → (n : ℕ) → Contains (numbers ++ count ∷ []) n ↔ n < count + 1
numbers_more numbers count members n = (
  λ has. elim (Contains-push_cases numbers count n has) [
    | inl before ↦ let less : n < count = (members n).0 before in omega arith
    | inr e ↦ omega arith
  ],
  λ less. elim (cases_eq n count) [
    | inl e ↦ subst (λ k. Contains (numbers ++ count ∷ []) k) (sym e) (Contains-push numbers count)
    | inr ne ↦ Contains-append_left numbers (count ∷ []) n ((members n).1 (omega arith))
  ],
)

-- one fewer to come, for at most so many more pending
pub falls : (u v n rest old new : ℕ) → u + 1 ≡ v → new ≤ rest + n → old ≡ rest + 1 → u * (n + 1) + new < v * (n + 1) + old
falls u v n rest old new e le at = subst (λ k. u * (n + 1) + new < k * (n + 1) + old) e (omega arith)
