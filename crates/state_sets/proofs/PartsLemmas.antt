-- The pairs of starts, classes and targets, by place and by start.
use Rattle.std.proofs.Common.{◌≡◌, ◌≢◌, ℕ, zero, suc, ◌<◌, List, [], ◌∷◌, length, get_or, Some, None, refl, sym, ap, ◌∙◌, arith}
use Rattle.std.specs.Prelude.{All, AllPairs, slice_get}
use Rattle.std.proofs.lemmas.Option.{same_Some, slice_get-get_or}
use Rattle.std.proofs.lemmas.List.Elements.{All-nil, All-cons, All-head, All-tail}
use Rattle.std.proofs.lemmas.List.Kept.{AllPairs-cons}
use Rattle.map_theory.specs.Maps.{StateMap, target, IsRising}
use Rattle.map_theory.proofs.MapLemmas.{rising_tail, rising_above, target_at, target_other, target_above}
use Rattle.state_sets.specs.Parts.{pairs_of, IsArrow}

pub length-pairs_of : (starts classes targets : List ℕ) → length classes ≡ length starts → length (pairs_of starts classes targets) ≡ length starts
length-pairs_of [] classes targets same = refl
length-pairs_of (q ∷ starts) [] targets same = absurd (omega arith)
length-pairs_of (q ∷ starts) (k ∷ classes) targets same =
    let below : length classes ≡ length starts = omega arith in
    let e = length-pairs_of starts classes targets below in omega arith

pub pair_at : (starts classes targets : List ℕ) (i : ℕ) → length classes ≡ length starts → i < length starts → slice_get (pairs_of starts classes targets) i ≡ Some (get_or starts i 0, get_or targets (get_or classes i 0) 0)
pair_at [] classes targets i same within = absurd (omega arith)
pair_at (q ∷ starts) [] targets i same within = absurd (omega arith)
pair_at (q ∷ starts) (k ∷ classes) targets zero same within = refl
pair_at (q ∷ starts) (k ∷ classes) targets (suc i) same within = pair_at starts classes targets i (omega arith) (omega arith)

starts_above : (z : ℕ) (starts classes targets : List ℕ) → length classes ≡ length starts → All (λ x. z < x.0) (pairs_of starts classes targets) → All (λ x. z < x) starts
starts_above z [] classes targets same above = All-nil (λ x. z < x)
starts_above z (q ∷ starts) [] targets same above = absurd (omega arith)
starts_above z (q ∷ starts) (k ∷ classes) targets same above =
    All-cons (λ x. z < x) q starts (All-head (λ x. z < x.0) (q, get_or targets k 0) (pairs_of starts classes targets) above)
    (starts_above z starts classes targets (omega arith) (All-tail (λ x. z < x.0) (q, get_or targets k 0) (pairs_of starts classes targets) above))

pub starts_rise : (starts classes targets : List ℕ) → length classes ≡ length starts → IsRising (pairs_of starts classes targets) → AllPairs (λ x y. x < y) starts
starts_rise [] classes targets same rising = λ i j d before within. absurd (omega arith)
starts_rise (q ∷ starts) [] targets same rising = absurd (omega arith)
starts_rise (q ∷ starts) (k ∷ classes) targets same rising =
    AllPairs-cons (λ x y. x < y) q starts (starts_above q starts classes targets (omega arith) (rising_above (q, get_or targets k 0) (pairs_of starts classes targets) rising))
    (starts_rise starts classes targets (omega arith) (rising_tail (q, get_or targets k 0) (pairs_of starts classes targets) rising))

pub no_target : (starts classes targets : List ℕ) (z : ℕ) → All (λ x. x ≢ z) starts → target (pairs_of starts classes targets) z ≡ None
no_target [] classes targets z none = refl
no_target (q ∷ starts) [] targets z none = refl
no_target (q ∷ starts) (k ∷ classes) targets z none =
    target_other (q, get_or targets k 0) (pairs_of starts classes targets) z (All-head (λ x. x ≢ z) q starts none)
    ∙ no_target starts classes targets z (All-tail (λ x. x ≢ z) q starts none)

-- in a rising map the pair at a place tells the target of its start
pub target_at_pair : (m : StateMap) (i : ℕ) (pair : ℕ × ℕ) → IsRising m → slice_get m i ≡ Some pair → target m pair.0 ≡ Some pair.1
target_at_pair [] i pair rising is = absurd (cc is)
target_at_pair (x ∷ m) zero pair rising is =
    let same : x ≡ pair = same_Some x pair is in target_at x m pair.0 (ap (λ y. y.0) same) ∙ ap (λ y. Some y.1) same
target_at_pair (x ∷ m) (suc i) pair rising is =
    let later = target_at_pair m i pair (rising_tail x m rising) is in
    target_other x m pair.0 (λ e. absurd (differ e later)) ∙ later
  where
    differ : x.0 ≡ pair.0 → target m pair.0 ≡ Some pair.1 → ⊥
    differ e later =
        let none : target m pair.0 ≡ None = ap (target m) (sym e) ∙ target_above m x.0 (rising_above x m rising) in absurd (cc (none, later))

pub found_target : (starts classes targets : List ℕ) (i z : ℕ) → length classes ≡ length starts → IsRising (pairs_of starts classes targets) → i < length starts → slice_get starts i ≡ Some z → target (pairs_of starts classes targets) z ≡ Some (get_or targets (get_or classes i 0) 0)
found_target starts classes targets i z same rising within is =
    let start : get_or starts i 0 ≡ z = same_Some (get_or starts i 0) z (sym (slice_get-get_or starts i 0 within) ∙ is) in
    let pair = pair_at starts classes targets i same within in
    ap (target (pairs_of starts classes targets)) (sym start) ∙ target_at_pair (pairs_of starts classes targets) i (get_or starts i 0, get_or targets (get_or classes i 0) 0) rising pair

pub within_starts : (starts classes targets : List ℕ) (i : ℕ) → IsArrow starts classes targets → i < length (pairs_of starts classes targets) → (i < length starts) × (i < length classes) × (get_or classes i 0 < length targets)
within_starts starts classes targets i arrow within =
    let inside : i < length starts = omega (arith, length-pairs_of starts classes targets arrow.classed.lengths) in
    let also : i < length classes = omega (arith, arrow.classed.lengths) in
    (inside, also, arrow.classed.numbers i 0 also)
