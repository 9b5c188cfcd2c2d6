-- What a new member leaves of a set.
use Rattle.std.proofs.Common.{◌≡◌, Bool, true, false, cond, List, [], ◌∷◌, ◌++◌, refl, sym, ap, subst, ◌∙◌, inl, inr}
use Rattle.std.specs.Prelude.{◌↔◌, Contains}
use Rattle.std.specs.Bool.{Decides}
use Rattle.std.proofs.lemmas.Bool.{false≢true}
use Rattle.std.proofs.lemmas.List.Elements.{Contains-append_left, Contains-push, Contains-push_cases}

by_test : {X : Type 0} (eq : X → X → Bool) → ((a b : X) → Decides (eq a b) (a ≡ b)) → (old new : X → Bool) (xs : List X) (x : X) → ((y : X) → (old y ≡ true) ↔ Contains xs y) → (y : X) → new y ≡ cond (eq x y) true (old y) → (b : Bool) → eq x y ≡ b → (new y ≡ true) ↔ Contains (xs ++ x ∷ []) y
by_test eq decides old new xs x same y grown true e =
    let is : x ≡ y = (decides x y).0 e in (λ _. subst (λ z. Contains (xs ++ x ∷ []) z) is (Contains-push xs x), λ _. grown ∙ ap (λ b. cond b true (old y)) e)
by_test eq decides old new xs x same y grown false e =
    let kept : new y ≡ old y = grown ∙ ap (λ b. cond b true (old y)) e in (
      λ h. Contains-append_left xs (x ∷ []) y ((same y).0 (sym kept ∙ h)),
      λ h. elim (Contains-push_cases xs x y h) [
        | inl before ↦ kept ∙ (same y).1 before
        | inr is ↦ absurd (false≢true (sym e ∙ (decides x y).1 is))
      ],
    )

pub has_more : {X : Type 0} (eq : X → X → Bool) → ((a b : X) → Decides (eq a b) (a ≡ b)) → (old new : X → Bool) (xs : List X) (x : X) → ((y : X) → (old y ≡ true) ↔ Contains xs y) → ((y : X) → new y ≡ cond (eq x y) true (old y)) → (y : X) → (new y ≡ true) ↔ Contains (xs ++ x ∷ []) y
has_more eq decides old new xs x same grown y = by_test eq decides old new xs x same y (grown y) (eq x y) refl
