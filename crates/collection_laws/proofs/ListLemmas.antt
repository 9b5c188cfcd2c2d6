-- Where for each place some element isn't refuted, a whole list of them isn't.
use Rattle.std.proofs.Common.{◌≡◌, ℕ, zero, suc, ◌<◌, ◌⊎◌, inl, inr, ⊎_elim, List, [], ◌∷◌, ◌++◌, length, slice_get, Option, Some, refl, sym, subst, ◌∙◌, arith}
use Rattle.std.proofs.lemmas.List.{length_push}
use Rattle.grammar_theory.proofs.RuleLemmas.{slice_get_cases}
use Rattle.state_laws.proofs.RefutedLemmas.{NotRefuted}

module _ {X : Type 0} (P : ℕ → X → Type 0) where
  -- so many elements, and what holds of each at its place
  abbrev pub HasList : ℕ → Type 0
  HasList n = (xs : List X) × (length xs ≡ n) × ((k : ℕ) (x : X) → slice_get xs k ≡ Some x → P k x)

  none_at : (k : ℕ) (x : X) → ◌≡◌ {A = Option X} (slice_get [] k) (Some x) → P k x
  none_at k x at = absurd (cc)

  list_more : (n : ℕ) → HasList n → ((x : X) × P n x) → HasList (suc n)
  list_more n (xs, count, each) (y, here) = (xs ++ y ∷ [], omega (arith, length_push xs y, count), λ k x at. cases k x (slice_get_cases xs y x k at))
    where
      cases : (k : ℕ) (x : X) → (slice_get xs k ≡ Some x) ⊎ ((k ≡ length xs) × (y ≡ x)) → P k x
      cases k x (inl at) = each k x at
      cases k x (inr (last, same)) = subst (λ m. P m x) (sym (last ∙ count)) (subst (λ z. P n z) same here)

  pub list_found : (n : ℕ) → ((k : ℕ) → k < n → NotRefuted ((x : X) × P k x)) → NotRefuted (HasList n)
  list_found zero each refuted = refuted ([], refl, none_at)
  list_found (suc n) each refuted =
      list_found n (λ k less. each k (omega arith))
      (λ some. each n (omega arith) (λ here. refuted (list_more n some here)))

  -- where for each place there is an element or something else is so, there is a whole list of them or that is so
  pub list_or : (C : Type 0) (n : ℕ) → ((k : ℕ) → k < n → ((x : X) × P k x) ⊎ C) → HasList n ⊎ C
  list_or C zero each = inl ([], refl, none_at)
  list_or C (suc n) each =
      ⊎_elim
      (λ some. ⊎_elim (λ here. inl (list_more n some here)) (λ other. inr other) (each n (omega arith)))
      (λ other. inr other)
      (list_or C n (λ k less. each k (omega arith)))
