-- Elements of lists that grow.
use Rattle.std.proofs.Common.{◌≡◌, ℕ, zero, suc, ◌⊎◌, inl, inr, ⊎_elim, List, [], ◌∷◌, ◌++◌, length, refl, ap}
use Rattle.std.specs.Prelude.{slice_get, Some}

pub slice_get_last : {X : Type 0} (xs : List X) (x : X) → slice_get (xs ++ x ∷ []) (length xs) ≡ Some x
slice_get_last [] x = refl
slice_get_last (y ∷ xs) x = slice_get_last xs x

pub slice_get_cases : {X : Type 0} (xs : List X) (y x : X) (i : ℕ) → slice_get (xs ++ y ∷ []) i ≡ Some x → (slice_get xs i ≡ Some x) ⊎ ((i ≡ length xs) × (y ≡ x))
slice_get_cases [] y x zero e = inr (refl, cc)
slice_get_cases [] y x (suc i) e = absurd (cc)
slice_get_cases (z ∷ xs) y x zero e = inl e
slice_get_cases (z ∷ xs) y x (suc i) e = ⊎_elim (λ before. inl before) (λ last. inr (ap suc last.0, last.1)) (slice_get_cases xs y x i e)

pub kept_get : {X : Type 0} (xs ys : List X) (k : ℕ) (x : X) → slice_get xs k ≡ Some x → slice_get (xs ++ ys) k ≡ Some x
kept_get [] ys k x e = absurd (cc)
kept_get (z ∷ xs) ys zero x e = e
kept_get (z ∷ xs) ys (suc k) x e = kept_get xs ys k x e
