-- Elements of lists that grow at their end, and of lists that are joined.
use Rattle.std.proofs.Common.{◌≡◌, ℕ, zero, suc, ◌+◌, ◌<◌, List, [], ◌∷◌, ◌++◌, length, map, take, get_or, refl, sym, ap, subst, ◌∙◌, inl, inr, arith}
use Rattle.std.specs.Prelude.{◌⊎◌, Some, slice_get, Contains}
use Rattle.std.specs.List.{flat_map}
use Rattle.std.proofs.lemmas.List.{take_more, append-nil, take-append-le}
use Rattle.std.proofs.lemmas.Grind.{flat_map-append}
use Rattle.std.proofs.lemmas.Option.{none-some, same_Some, slice_get_within, slice_get-get_or, get_or_from_slice_get}
use Rattle.std.proofs.lemmas.List.Elements.{Contains-append_left, Contains-append_right, Contains-append_cases, Contains-push, Contains-push_cases}

pub get-append_left : {X : Type 0} (xs ys : List X) (i : ℕ) (x : X) → slice_get xs i ≡ Some x → slice_get (xs ++ ys) i ≡ Some x
get-append_left [] ys i x e = absurd (none-some x e)
get-append_left (y ∷ xs) ys zero x e = e
get-append_left (y ∷ xs) ys (suc i) x e = get-append_left xs ys i x e

pub get_pushed : {X : Type 0} (xs : List X) (y : X) → slice_get (xs ++ y ∷ []) (length xs) ≡ Some y
get_pushed [] y = refl
get_pushed (x ∷ xs) y = get_pushed xs y

pub get_push_cases : {X : Type 0} (xs : List X) (y : X) (i : ℕ) (x : X) → slice_get (xs ++ y ∷ []) i ≡ Some x → (slice_get xs i ≡ Some x) ⊎ ((i ≡ length xs) × (y ≡ x))
get_push_cases [] y zero x e = inr (refl, same_Some y x e)
get_push_cases [] y (suc i) x e = absurd (none-some x e)
get_push_cases (z ∷ xs) y zero x e = inl e
get_push_cases (z ∷ xs) y (suc i) x e =
    elim (get_push_cases xs y i x e) [ inl before ↦ inl before | inr last ↦ inr (ap suc last.0, last.1) ]

take_pushed : {X : Type 0} (xs ys : List X) → take (length xs) (xs ++ ys) ≡ xs
take_pushed [] [] = refl
take_pushed [] (y ∷ ys) = refl
take_pushed (x ∷ xs) ys = ap (λ zs. x ∷ zs) (take_pushed xs ys)

-- the element stands there again, by a part of it
abbrev pub IsAgain : {X K : Type 0} → (X → K) → List X → X → Type 0
IsAgain key xs x = (at : ℕ) × ((slice_get xs at ≡ Some x) × Contains (map key (take at xs)) (key x))

pub again_before : {X K : Type 0} (key : X → K) (xs : List X) (y x : X) → IsAgain key xs x → IsAgain key (xs ++ y ∷ []) x
again_before key xs y x h =
    let within = slice_get_within xs h.0 x h.1.0 in
    let same : take h.0 (xs ++ y ∷ []) ≡ take h.0 xs = take-append-le h.0 xs (y ∷ []) (omega arith) in
    (h.0, (get-append_left xs (y ∷ []) h.0 x h.1.0, subst (λ zs. Contains (map key zs) (key x)) (sym same) h.1.1))

pub again_here : {X K : Type 0} (key : X → K) (xs : List X) (y : X) → Contains (map key xs) (key y) → IsAgain key (xs ++ y ∷ []) y
again_here key xs y h =
    (length xs, (get_pushed xs y, subst (λ zs. Contains (map key zs) (key y)) (sym (take_pushed xs (y ∷ []))) h))

pub again_cases : {X K : Type 0} (key : X → K) (xs : List X) (y x : X) → IsAgain key (xs ++ y ∷ []) x → IsAgain key xs x ⊎ (Contains (map key xs) (key y) × (y ≡ x))
again_cases key xs y x h = elim (get_push_cases xs y h.0 x h.1.0) [
  | inl before ↦
      let within = slice_get_within xs h.0 x before in
      let same : take h.0 (xs ++ y ∷ []) ≡ take h.0 xs = take-append-le h.0 xs (y ∷ []) (omega arith) in
      inl (h.0, (before, subst (λ zs. Contains (map key zs) (key x)) same h.1.1))
  | inr last ↦
      let same : take h.0 (xs ++ y ∷ []) ≡ xs = ap (λ n. take n (xs ++ y ∷ [])) last.0 ∙ take_pushed xs (y ∷ []) in
      inr (subst (λ z. Contains (map key xs) (key z)) (sym last.1) (subst (λ zs. Contains (map key zs) (key x)) same h.1.1), last.1)
]

-- one more element of a loop's list
pub next_taken : {X : Type 0} (xs : List X) (i : ℕ) (x : X) → i < length xs → x ≡ get_or xs i x → take (i + 1) xs ≡ take i xs ++ x ∷ []
next_taken xs i x within read = take_more xs i x within ∙ ap (λ y. take i xs ++ y ∷ []) (sym read)

pub next_joined : {X A : Type 0} (g : X → List A) (xs : List X) (i : ℕ) (x : X) → i < length xs → x ≡ get_or xs i x → flat_map g (take (i + 1) xs) ≡ flat_map g (take i xs) ++ g x
next_joined g xs i x within read =
    ap (flat_map g) (next_taken xs i x within read) ∙ flat_map-append g (take i xs) (x ∷ []) ∙ ap (λ r. flat_map g (take i xs) ++ r) (append-nil (g x))

-- ---- elements of joined lists

pub no_element : {X : Type 0} (x : X) → Contains [] x → ⊥
no_element x h = omega (arith, h.1)

pub only_element : {X : Type 0} (x y : X) → Contains (x ∷ []) y → x ≡ y
only_element x y h = elim (Contains-push_cases [] x y h) [ inl before ↦ absurd (no_element y before) | inr same ↦ same ]

pub one_element : {X : Type 0} (x : X) → Contains (x ∷ []) x
one_element x = Contains-push [] x

pub joined_has : {X A : Type 0} (g : X → List A) (xs : List X) (x : X) (a : A) → Contains xs x → Contains (g x) a → Contains (flat_map g xs) a
joined_has g [] x a h k = absurd (no_element x h)
joined_has g (y ∷ xs) x a h k = elim (Contains-append_cases (y ∷ []) xs x h) [
  | inl here ↦ Contains-append_left (g y) (flat_map g xs) a (subst (λ z. Contains (g z) a) (sym (only_element y x here)) k)
  | inr later ↦ Contains-append_right (g y) (flat_map g xs) a (joined_has g xs x a later k)
]

pub joined_from : {X A : Type 0} (g : X → List A) (xs : List X) (a : A) → Contains (flat_map g xs) a → (x : X) × (Contains xs x × Contains (g x) a)
joined_from g [] a h = absurd (no_element a h)
joined_from g (x ∷ xs) a h = elim (Contains-append_cases (g x) (flat_map g xs) a h) [
  | inl here ↦ (x, (Contains-append_left (x ∷ []) xs x (one_element x), here))
  | inr later ↦ let r = joined_from g xs a later in (r.0, (Contains-append_right (x ∷ []) xs r.0 r.1.0, r.1.1))
]

pub mapped_has : {X A : Type 0} (g : X → A) (xs : List X) (x : X) → Contains xs x → Contains (map g xs) (g x)
mapped_has g [] x h = absurd (no_element x h)
mapped_has g (y ∷ xs) x h = elim (Contains-append_cases (y ∷ []) xs x h) [
  | inl here ↦ Contains-append_left (g y ∷ []) (map g xs) (g x) (subst (λ z. Contains (g y ∷ []) (g z)) (only_element y x here) (one_element (g y)))
  | inr later ↦ Contains-append_right (g y ∷ []) (map g xs) (g x) (mapped_has g xs x later)
]

pub mapped_from : {X A : Type 0} (g : X → A) (xs : List X) (a : A) → Contains (map g xs) a → (x : X) × (Contains xs x × (g x ≡ a))
mapped_from g [] a h = absurd (no_element a h)
mapped_from g (x ∷ xs) a h = elim (Contains-append_cases (g x ∷ []) (map g xs) a h) [
  | inl here ↦ (x, (Contains-append_left (x ∷ []) xs x (one_element x), only_element (g x) a here))
  | inr later ↦ let r = mapped_from g xs a later in (r.0, (Contains-append_right (x ∷ []) xs r.0 r.1.0, r.1.1))
]

pub get_or_default : {X : Type 0} (xs : List X) (i : ℕ) (d x : X) → i < length xs → get_or xs i d ≡ get_or xs i x
get_or_default xs i d x within = sym (get_or_from_slice_get xs i (get_or xs i d) x (slice_get-get_or xs i d within))
