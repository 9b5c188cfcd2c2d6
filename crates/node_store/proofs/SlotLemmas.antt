-- The index of chunks: more slots, and one more chunk.
use Rattle.std.proofs.Common.{◌≡◌, ℕ, zero, suc, ◌+◌, ◌-◌, ◌<◌, ◌≤◌, inl, inr, List, [], ◌∷◌, ◌++◌, length, take, set, replicate, get_or, slice_get, Some, Contains, refl, sym, ap, ◌∙◌, subst, arith, length-take-le}
use Rattle.std.proofs.lemmas.List.{take_all, take_more, get_or_default}
use Rattle.std.proofs.lemmas.Bool.{cases_eq}
use Rattle.std.proofs.lemmas.Option.{same_Some, slice_get_within, slice_get-get_or, get_or_from_slice_get, slice_get_read}
use Rattle.grammar_theory.proofs.DerivationLemmas.{slice_get_kept}
use Rattle.grammar_theory.proofs.RuleLemmas.{slice_get_last, slice_get_cases}
use Rattle.node_store.specs.Slots.{IsIndexOf, AreDistinct, HaveSlots}

pub slice_get-set_same : {X : Type 0} (xs : List X) (i : ℕ) (x : X) → i < length xs → slice_get (set xs i x) i ≡ Some x
slice_get-set_same [] i x less = absurd (omega (arith, less))
slice_get-set_same (y ∷ xs) zero x less = refl
slice_get-set_same (y ∷ xs) (suc i) x less = slice_get-set_same xs i x (omega (arith, less))

pub slice_get-set_other : {X : Type 0} (xs : List X) (i j : ℕ) (x : X) → (j ≡ i → ⊥) → slice_get (set xs i x) j ≡ slice_get xs j
slice_get-set_other [] i j x other = refl
slice_get-set_other (y ∷ xs) zero zero x other = absurd (other refl)
slice_get-set_other (y ∷ xs) zero (suc j) x other = refl
slice_get-set_other (y ∷ xs) (suc i) zero x other = refl
slice_get-set_other (y ∷ xs) (suc i) (suc j) x other = slice_get-set_other xs i j x (λ e. other (ap suc e))

-- a number that is contained stands somewhere
pub place_of_contained : (xs : List ℕ) (x : ℕ) → Contains xs x → (k : ℕ) × (slice_get xs k ≡ Some x)
place_of_contained xs x (k, inside, at) = (k, slice_get-get_or xs k x inside ∙ ap Some at)

pub contained_at : (xs : List ℕ) (x k : ℕ) → slice_get xs k ≡ Some x → Contains xs x
contained_at xs x k at = (k, slice_get_within xs k x at, get_or_from_slice_get xs k x x at)

-- ---- more slots

only_zeros : (n c slot : ℕ) → slice_get (replicate n 0) c ≡ Some slot → slot ≡ 0
only_zeros zero c slot at = absurd (cc)
only_zeros (suc n) zero slot at = sym (same_Some 0 slot at)
only_zeros (suc n) (suc c) slot at = only_zeros n c slot at

not_padded : (slots : List ℕ) (n c slot : ℕ) → slice_get (slots ++ replicate n 0) c ≡ Some slot → 0 < slot → slice_get slots c ≡ Some slot
not_padded [] n c slot at more = absurd (let none = only_zeros n c slot at in omega (arith, none, more))
not_padded (other ∷ slots) n zero slot at more = at
not_padded (other ∷ slots) n (suc c) slot at more = not_padded slots n c slot at more

pub index_padded : (slots grown numbers : List ℕ) (n m : ℕ) → length slots ≤ m → grown ≡ take m slots ++ replicate n 0 → IsIndexOf slots numbers → IsIndexOf grown numbers
index_padded slots grown numbers n m fits same index =
    let whole = same ∙ ap (λ l. l ++ replicate n 0) (take_all m slots fits) in
    record {
      to_place = λ c slot at more. index.to_place c slot (not_padded slots n c slot (sym (ap (λ l. slice_get l c) whole) ∙ at) more) more;
      to_slot = λ place c at. ap (λ l. slice_get l c) whole ∙ slice_get_kept slots (replicate n 0) c (index.to_slot place c at);
    }

-- ---- one more chunk

pub index_push : (slots numbers : List ℕ) (number slot : ℕ) → IsIndexOf slots numbers → ((k : ℕ) → slice_get numbers k ≡ Some number → ⊥) → number < length slots → slot ≡ length numbers + 1 → IsIndexOf (set slots number slot) (numbers ++ number ∷ [])
index_push slots numbers number slot index fresh inside next = record {
  to_place = λ c s at more. elim (cases_eq c number) as (λ _. slice_get (numbers ++ number ∷ []) (s - 1) ≡ Some c) [
    | inl same ↦
        let is : slot ≡ s = same_Some slot s (sym (slice_get-set_same slots number slot inside) ∙ subst (λ n. slice_get (set slots number slot) n ≡ Some s) same at) in
        let last : s - 1 ≡ length numbers = omega (arith, is, next) in
        ap (slice_get (numbers ++ number ∷ [])) last ∙ slice_get_last numbers number ∙ ap Some (sym same)
    | inr other ↦ slice_get_kept numbers (number ∷ []) (s - 1) (index.to_place c s (sym (slice_get-set_other slots number c slot other) ∙ at) more)
  ];
  to_slot = λ place c at. elim (slice_get_cases numbers number c place at) as (λ _. slice_get (set slots number slot) c ≡ Some (place + 1)) [
    | inl before ↦ slice_get-set_other slots number c slot (λ same. fresh place (before ∙ ap Some same)) ∙ index.to_slot place c before
    | inr last ↦
        let it : slot ≡ place + 1 = (let at_end = last.0 in omega (arith, at_end, next)) in
        subst (λ n. slice_get (set slots number slot) n ≡ Some (place + 1)) last.1 (slice_get-set_same slots number slot inside ∙ ap Some it)
  ];
}

-- ---- a look

-- two places have two numbers
pub once_in : (slots numbers : List ℕ) → IsIndexOf slots numbers → (i j number : ℕ) → slice_get numbers i ≡ Some number → slice_get numbers j ≡ Some number → i ≡ j
once_in slots numbers index i j number here there =
    let same = same_Some (i + 1) (j + 1) (sym (index.to_slot i number here) ∙ index.to_slot j number there) in
    omega (arith, same)

-- the slot of a number that is contained is one more than its place
pub slot_of : (slots numbers : List ℕ) (number : ℕ) → IsIndexOf slots numbers → Contains numbers number → (k : ℕ) × (slice_get numbers k ≡ Some number) × (get_or slots number 0 ≡ k + 1)
slot_of slots numbers number index has =
    let found = place_of_contained numbers number has in
    (found.0, found.1, get_or_from_slice_get slots number (found.0 + 1) 0 (index.to_slot found.0 number found.1))

-- ---- the slots of chunks one after another

numbers_more : (numbers : List ℕ) (place number : ℕ) → slice_get numbers place ≡ Some number → take (place + 1) numbers ≡ take place numbers ++ number ∷ []
numbers_more numbers place number at =
    let inside = slice_get_within numbers place number at in
    take_more numbers place 0 inside ∙ ap (λ n. take place numbers ++ n ∷ []) (get_or_from_slice_get numbers place number 0 at)

pub index_next : (slots numbers : List ℕ) (from place number : ℕ) → IsIndexOf slots (take place numbers) → AreDistinct numbers → HaveSlots slots from numbers → from ≤ place → slice_get numbers place ≡ Some number → IsIndexOf (set slots number (place + 1)) (take (place + 1) numbers)
index_next slots numbers from place number index distinct room after at =
    let inside = slice_get_within numbers place number at in
    let size = length-take-le place numbers (omega (arith, inside)) in
    let fresh : (k : ℕ) → slice_get (take place numbers) k ≡ Some number → ⊥ = λ k there.
    let below = slice_get_within (take place numbers) k number there in
    let same = distinct k place number (slice_get_taken numbers place k number there) at in
    omega (arith, below, size, same) in
    subst (IsIndexOf (set slots number (place + 1))) (sym (numbers_more numbers place number at))
    (index_push slots (take place numbers) number (place + 1) index fresh (room place number after at) (omega (arith, size)))
  where
    slice_get_taken : (numbers : List ℕ) (n k number : ℕ) → slice_get (take n numbers) k ≡ Some number → slice_get numbers k ≡ Some number
    slice_get_taken numbers zero k number at = absurd (cc)
    slice_get_taken [] (suc n) k number at = at
    slice_get_taken (x ∷ numbers) (suc n) zero number at = at
    slice_get_taken (x ∷ numbers) (suc n) (suc k) number at = slice_get_taken numbers n k number at

-- a slot tells whether there is a chunk
pub slot_has : (slots numbers : List ℕ) (number slot : ℕ) → IsIndexOf slots numbers → number < length slots → slot ≡ get_or slots number slot → 0 < slot → Contains numbers number
slot_has slots numbers number slot index inside read more =
    let at = slice_get_read slots (length slots) number slot refl inside read in
    contained_at numbers number (slot - 1) (index.to_place number slot at more)

pub has_slot : (slots numbers : List ℕ) (number slot : ℕ) → IsIndexOf slots numbers → number < length slots → slot ≡ get_or slots number slot → Contains numbers number → 0 < slot
has_slot slots numbers number slot index inside read has =
    let found = slot_of slots numbers number index has in
    let same : slot ≡ found.0 + 1 = read ∙ get_or_default slots number slot 0 inside ∙ found.2 in
    omega (arith, same)
