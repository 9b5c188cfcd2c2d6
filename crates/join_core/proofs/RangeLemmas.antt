-- The ranges that are kept under their first leaves, and what a write changes of them.
use Rattle.std.proofs.Common.{◌≡◌, ℕ, zero, suc, ◌+◌, ◌<◌, ⊎_elim, List, [], ◌∷◌, ◌++◌, length, get_or, set, Option, Some, None, Contains, refl, sym, ap, ◌∙◌, subst, arith, append_assoc}
use Rattle.std.specs.List.Sorted.{IsPermutation}
use Rattle.std.proofs.lemmas.List.{get_or-set_same, length-set}
use Rattle.std.proofs.lemmas.List.Elements.{Contains-append_cases}
use Rattle.std.proofs.lemmas.List.Sorted.{IsPermutation-refl, IsPermutation-sym, IsPermutation-trans, IsPermutation-append, IsPermutation-append_comm, IsPermutation-cons, IsPermutation-middle, Contains-permutation}
use Rattle.core_theory.specs.Tree.{Range}
use Rattle.core_theory.proofs.LiveLemmas.{member_cases, member_first, no_member}
use Rattle.join_core.specs.declared.held.Held.{Held}
use Rattle.join_core.specs.Nodes.{range_from}
use Rattle.join_core.specs.Ranges.{range_at, ranges_of}

-- the ranges under all leaves but one
abbrev others : (Held → Option ℕ) → ℕ → List Held → ℕ → List Range
others end first [] k = []
others end first (held ∷ rest) zero = ranges_of end (first + 1) rest
others end first (held ∷ rest) (suc k) = range_at first (end held) ++ others end (first + 1) rest k

moved : (xs ys zs : List Range) → IsPermutation (xs ++ (ys ++ zs)) (ys ++ (xs ++ zs))
moved xs ys zs =
    let P : List Range → Type 0 = λ l. IsPermutation l (ys ++ (xs ++ zs)) in
    let Q : List Range → Type 0 = λ l. IsPermutation ((xs ++ ys) ++ zs) l in
    subst P (append_assoc xs ys zs) (subst Q (append_assoc ys xs zs) (IsPermutation-append _ _ _ _ (IsPermutation-append_comm xs ys) (IsPermutation-refl zs)))

parted : (end : Held → Option ℕ) (first : ℕ) (helds : List Held) (k at : ℕ) (d : Held) → k < length helds → at ≡ first + k → IsPermutation (range_at at (end (get_or helds k d)) ++ others end first helds k) (ranges_of end first helds)
parted end first [] k at d inside e = absurd (omega (arith, inside))
parted end first (held ∷ rest) zero at d inside e =
    let P : ℕ → Type 0 = λ n. IsPermutation (range_at n (end held) ++ ranges_of end (first + 1) rest) (range_at first (end held) ++ ranges_of end (first + 1) rest) in
    let here : first ≡ at = omega (arith, e) in
    subst P here (IsPermutation-refl _)
parted end first (held ∷ rest) (suc k) at d inside e =
    let more = parted end (first + 1) rest k at d (omega (arith, inside)) (omega (arith, e)) in
    IsPermutation-trans _ _ _ (moved (range_at at (end (get_or rest k d))) (range_at first (end held)) (others end (first + 1) rest k)) (IsPermutation-append _ _ _ _ (IsPermutation-refl (range_at first (end held))) more)

others-set : (end : Held → Option ℕ) (first : ℕ) (helds : List Held) (k : ℕ) (held : Held) → others end first (set helds k held) k ≡ others end first helds k
others-set end first [] k held = refl
others-set end first (other ∷ rest) zero held = refl
others-set end first (other ∷ rest) (suc k) held = ap (λ l. range_at first (end other) ++ l) (others-set end (first + 1) rest k held)

before_at : (end : Held → Option ℕ) (helds : List Held) (k : ℕ) (d : Held) {last : Option ℕ} → k < length helds → end (get_or helds k d) ≡ last → IsPermutation (range_at k last ++ others end 0 helds k) (ranges_of end 0 helds)
before_at end helds k d {last} inside e =
    let P : Option ℕ → Type 0 = λ o. IsPermutation (range_at k o ++ others end 0 helds k) (ranges_of end 0 helds) in
    subst P e (parted end 0 helds k k d inside (omega arith))

after_at : (end : Held → Option ℕ) (helds : List Held) (k : ℕ) (held : Held) {last : Option ℕ} → k < length helds → end held ≡ last → IsPermutation (range_at k last ++ others end 0 helds k) (ranges_of end 0 (set helds k held))
after_at end helds k held {last} inside e =
    let now : end (get_or (set helds k held) k held) ≡ last = ap end (get_or-set_same helds k held held inside) ∙ e in
    let P : List Range → Type 0 = λ l. IsPermutation (range_at k last ++ l) (ranges_of end 0 (set helds k held)) in
    subst P (others-set end 0 helds k held) (before_at end (set helds k held) k held (omega (arith, inside, length-set helds k held)) now)

-- ---- what a write changes

pub kept_at : (end : Held → Option ℕ) (helds : List Held) (k : ℕ) (d held : Held) → k < length helds → end (get_or helds k d) ≡ None → end held ≡ None → IsPermutation (ranges_of end 0 helds) (ranges_of end 0 (set helds k held))
kept_at end helds k d held inside was is = IsPermutation-trans _ _ _ (IsPermutation-sym _ _ (before_at end helds k d inside was)) (after_at end helds k held inside is)

pub added_at : (end : Held → Option ℕ) (helds : List Held) (k last : ℕ) (d held : Held) → k < length helds → end (get_or helds k d) ≡ None → end held ≡ Some last → IsPermutation (range_from k last ∷ ranges_of end 0 helds) (ranges_of end 0 (set helds k held))
added_at end helds k last d held inside was is = IsPermutation-trans _ _ _ (IsPermutation-cons (range_from k last) _ _ (IsPermutation-sym _ _ (before_at end helds k d inside was))) (after_at end helds k held inside is)

pub removed_at : (end : Held → Option ℕ) (helds : List Held) (k last : ℕ) (d held : Held) → k < length helds → end (get_or helds k d) ≡ Some last → end held ≡ None → IsPermutation (ranges_of end 0 helds) (range_from k last ∷ ranges_of end 0 (set helds k held))
removed_at end helds k last d held inside was is = IsPermutation-trans _ _ _ (IsPermutation-sym _ _ (before_at end helds k d inside was)) (IsPermutation-cons (range_from k last) _ _ (after_at end helds k held inside is))

pub replaced_at : (end : Held → Option ℕ) (helds : List Held) (k old last : ℕ) (d held : Held) → k < length helds → end (get_or helds k d) ≡ Some old → end held ≡ Some last → IsPermutation (range_from k last ∷ ranges_of end 0 helds) (range_from k old ∷ ranges_of end 0 (set helds k held))
replaced_at end helds k old last d held inside was is =
    let rest = others end 0 helds k in
    let before : IsPermutation (range_from k last ∷ ranges_of end 0 helds) (range_from k last ∷ range_from k old ∷ rest) = IsPermutation-cons (range_from k last) _ _ (IsPermutation-sym _ _ (before_at end helds k d inside was)) in
    let swapped : IsPermutation (range_from k last ∷ range_from k old ∷ rest) (range_from k old ∷ range_from k last ∷ rest) = IsPermutation-middle (range_from k last ∷ []) (range_from k old) rest in
    IsPermutation-trans _ _ _ before (IsPermutation-trans _ _ _ swapped (IsPermutation-cons (range_from k old) _ _ (after_at end helds k held inside is)))

-- ---- which ranges there are

range_at_member : (first : ℕ) (last : Option ℕ) {range : Range} → Contains (range_at first last) range → (range.first ≡ first) × (last ≡ Some range.last)
range_at_member first None has = absurd (no_member has)
range_at_member first (Some last) {range} has = ⊎_elim
    (λ same. (ap (λ r. r.first) same, ap (λ r. Some r.last) (sym same)))
    (λ none. absurd (no_member none))
    (member_cases (range_from first last) [] has)

member_from : (end : Held → Option ℕ) (first : ℕ) (helds : List Held) {range : Range} → Contains (ranges_of end first helds) range → (k : ℕ) × (k < length helds) × (range.first ≡ first + k) × ((d : Held) → end (get_or helds k d) ≡ Some range.last)
member_from end first [] has = absurd (no_member has)
member_from end first (held ∷ rest) {range} has = ⊎_elim
    (λ here. let at = range_at_member first (end held) here in (0, omega arith, omega (arith, at.0), λ d. at.1))
    (λ later. let more = member_from end (first + 1) rest later in (suc more.0, omega (arith, more.1), omega (arith, more.2), more.3))
    (Contains-append_cases (range_at first (end held)) (ranges_of end (first + 1) rest) range has)

-- a range is kept under its first leaf
pub member_at : (end : Held → Option ℕ) (helds : List Held) (first last : ℕ) (d : Held) → Contains (ranges_of end 0 helds) (range_from first last) → (first < length helds) × (end (get_or helds first d) ≡ Some last)
member_at end helds first last d has =
    let found = member_from end 0 helds has in
    let at : found.0 ≡ first = omega (arith, found.2) in
    (omega (arith, at, found.1), subst (λ k. end (get_or helds k d) ≡ Some last) at (found.3 d))

pub member_there : (end : Held → Option ℕ) (helds : List Held) (first last : ℕ) (d : Held) → first < length helds → end (get_or helds first d) ≡ Some last → Contains (ranges_of end 0 helds) (range_from first last)
member_there end helds first last d inside is = Contains-permutation _ _ (range_from first last) (before_at end helds first d inside is) (member_first (range_from first last) (others end 0 helds first))
