-- Members of lists, and those that stand there again.
use Rattle.std.proofs.Common.{◌≡◌, ℕ, ◌+◌, ◌<◌, ◌≤◌, List, [], ◌∷◌, ◌++◌, length, map, take, refl, sym, ap, subst, ◌∙◌, inl, inr, arith}
use Rattle.std.specs.Prelude.{All, Option, Some, None, slice_get, Contains, option_map}
use Rattle.std.specs.List.{flat_map, range_with_len}
use Rattle.std.proofs.lemmas.List.{take-map, get_or-take, length-take-le}
use Rattle.std.proofs.lemmas.List.Elements.{All-nil, All-cons, All-head, All-tail, Contains-append_left, Contains-append_right, Contains-append_cases, Contains-push, Contains-push_cases}
use Rattle.std.proofs.lemmas.List.FromFn.{length-range_with_len, get_or-range_with_len}
use Rattle.std.proofs.lemmas.Option.{none-some, same_Some, slice_get_within, slice_get-map, get_or_from_slice_get}

pub all_left : {X : Type 0} (P : X → Type 0) (xs ys : List X) → All P (xs ++ ys) → All P xs
all_left P [] ys h = All-nil P
all_left P (x ∷ xs) ys h = All-cons P x xs (All-head P x (xs ++ ys) h) (all_left P xs ys (All-tail P x (xs ++ ys) h))

pub all_right : {X : Type 0} (P : X → Type 0) (xs ys : List X) → All P (xs ++ ys) → All P ys
all_right P [] ys h = h
all_right P (x ∷ xs) ys h = all_right P xs ys (All-tail P x (xs ++ ys) h)

pub no_member : {X : Type 0} (x : X) → Contains [] x → ⊥
no_member x h = omega (arith, h.1)

pub only_member : {X : Type 0} (x y : X) → Contains (x ∷ []) y → x ≡ y
only_member x y h = elim (Contains-push_cases [] x y h) [ inl before ↦ absurd (no_member y before) | inr same ↦ same ]

pub one_member : {X : Type 0} (x : X) → Contains (x ∷ []) x
one_member x = Contains-push [] x

pub first_member : {X : Type 0} (x : X) (xs : List X) → Contains (x ∷ xs) x
first_member x xs = Contains-append_left (x ∷ []) xs x (one_member x)

pub later_member : {X : Type 0} (x : X) (xs : List X) (y : X) → Contains xs y → Contains (x ∷ xs) y
later_member x xs y h = Contains-append_right (x ∷ []) xs y h

pub joined_has : {X A : Type 0} (g : X → List A) (xs : List X) (x : X) (a : A) → Contains xs x → Contains (g x) a → Contains (flat_map g xs) a
joined_has g [] x a h k = absurd (no_member x h)
joined_has g (y ∷ xs) x a h k = elim (Contains-append_cases (y ∷ []) xs x h) [
  | inl here ↦ Contains-append_left (g y) (flat_map g xs) a (subst (λ z. Contains (g z) a) (sym (only_member y x here)) k)
  | inr later ↦ Contains-append_right (g y) (flat_map g xs) a (joined_has g xs x a later k)
]

-- the element of which it comes
pub record Joined {X A : Type 0} (g : X → List A) (xs : List X) (a : A) : Type 0 where
  pub from : X
  pub stands : Contains xs from
  pub has : Contains (g from) a

pub joined_from : {X A : Type 0} (g : X → List A) (xs : List X) (a : A) → Contains (flat_map g xs) a → Joined g xs a
joined_from g [] a h = absurd (no_member a h)
joined_from g (x ∷ xs) a h = elim (Contains-append_cases (g x) (flat_map g xs) a h) [
  | inl here ↦ record { from = x; stands = first_member x xs; has = here }
  | inr later ↦ let r = joined_from g xs a later in record { from = r.from; stands = later_member x xs r.from r.stands; has = r.has }
]

pub mapped_has : {X A : Type 0} (g : X → A) (xs : List X) (x : X) → Contains xs x → Contains (map g xs) (g x)
mapped_has g [] x h = absurd (no_member x h)
mapped_has g (y ∷ xs) x h = elim (Contains-append_cases (y ∷ []) xs x h) [
  | inl here ↦ Contains-append_left (g y ∷ []) (map g xs) (g x) (subst (λ z. Contains (g y ∷ []) (g z)) (only_member y x here) (one_member (g y)))
  | inr later ↦ Contains-append_right (g y ∷ []) (map g xs) (g x) (mapped_has g xs x later)
]

pub record Mapped {X A : Type 0} (g : X → A) (xs : List X) (a : A) : Type 0 where
  pub from : X
  pub stands : Contains xs from
  pub is : g from ≡ a

pub mapped_from : {X A : Type 0} (g : X → A) (xs : List X) (a : A) → Contains (map g xs) a → Mapped g xs a
mapped_from g [] a h = absurd (no_member a h)
mapped_from g (x ∷ xs) a h = elim (Contains-append_cases (g x ∷ []) (map g xs) a h) [
  | inl here ↦ record { from = x; stands = first_member x xs; is = only_member (g x) a here }
  | inr later ↦ let r = mapped_from g xs a later in record { from = r.from; stands = later_member x xs r.from r.stands; is = r.is }
]

-- ---- an element that stands before this place, too

pub record IsRepeated {X : Type 0} (xs : List X) (x : X) : Type 0 where
  pub at : ℕ
  pub here : slice_get xs at ≡ Some x
  pub before : Contains (take at xs) x

-- by a part of the elements
pub record IsAgain {X K : Type 0} (key : X → K) (xs : List X) (x : X) : Type 0 where
  pub at : ℕ
  pub here : slice_get xs at ≡ Some x
  pub before : Contains (map key (take at xs)) (key x)

pub again_keys : {X K : Type 0} (key : X → K) (xs : List X) (x : X) → IsAgain key xs x → IsRepeated (map key xs) (key x)
again_keys key xs x h = record {
  at = h.at;
  here = slice_get-map key xs h.at ∙ ap (option_map key) h.here;
  before = subst (λ l. Contains l (key x)) (sym (take-map key h.at xs)) h.before;
}

pub record HasAgain {X K : Type 0} (key : X → K) (xs : List X) : Type 0 where
  pub element : X
  pub again : IsAgain key xs element

again_by : {X K : Type 0} (key : X → K) (xs : List X) (k : K) (h : IsRepeated (map key xs) k) (o : Option X) → slice_get xs h.at ≡ o → HasAgain key xs
again_by key xs k h None e = absurd (none-some k (sym (slice_get-map key xs h.at ∙ ap (option_map key) e) ∙ h.here))
again_by key xs k h (Some x) e =
    let same : key x ≡ k = same_Some (key x) k (sym (slice_get-map key xs h.at ∙ ap (option_map key) e) ∙ h.here) in
    let before : Contains (map key (take h.at xs)) k = subst (λ l. Contains l k) (take-map key h.at xs) h.before in
    record { element = x; again = record { at = h.at; here = e; before = subst (Contains (map key (take h.at xs))) (sym same) before } }

pub keys_again : {X K : Type 0} (key : X → K) (xs : List X) (k : K) → IsRepeated (map key xs) k → HasAgain key xs
keys_again key xs k h = again_by key xs k h (slice_get xs h.at) refl

-- no number of a range stands there again
pub range_once : (a n x : ℕ) → IsRepeated (range_with_len a n) x → ⊥
range_once a n x h =
    let size = length-range_with_len a n in
    let within = slice_get_within (range_with_len a n) h.at x h.here in
    let here : a + h.at ≡ x = sym (get_or-range_with_len a n h.at 0 (omega (arith, size, within))) ∙ get_or_from_slice_get (range_with_len a n) h.at x 0 h.here in
    let taken : length (take h.at (range_with_len a n)) ≡ h.at = length-take-le h.at (range_with_len a n) (omega (arith, within)) in
    let k : ℕ = h.before.0 in
    let less : k < h.at = let l = h.before.1 in omega (arith, taken, l) in
    let before : a + k ≡ x = sym (get_or-range_with_len a n k x (omega (arith, less, size, within))) ∙ sym (get_or-take h.at (range_with_len a n) k x less) ∙ h.before.2 in
    omega (arith, less, here, before)

-- the numbers of a range
pub range_member : (a n x : ℕ) → Contains (range_with_len a n) x → (a ≤ x) × (x < a + n)
range_member a n x h =
    let size = length-range_with_len a n in
    let within : h.0 < n = let l = h.1 in omega (arith, size, l) in
    let is : a + h.0 ≡ x = sym (get_or-range_with_len a n h.0 x within) ∙ h.2 in
    (omega (arith, is), omega (arith, is, within))
