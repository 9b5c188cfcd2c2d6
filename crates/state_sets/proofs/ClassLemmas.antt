-- The classes of a map as pairs are put last.
use Rattle.std.proofs.Common.{◌≡◌, ℕ, zero, suc, ◌+◌, ◌<◌, ◌≤◌, Bool, true, false, eqb, List, [], ◌∷◌, ◌++◌, length, get_or, map, Some, refl, sym, ap, ◌∙◌, subst, arith, length-append}
use Rattle.std.specs.Prelude.{All, fold, slice_get}
use Rattle.std.specs.List.{list_any}
use Rattle.std.proofs.lemmas.Bool.{cond-true, cond-false, eq-eqb}
use Rattle.std.proofs.lemmas.Option.{slice_get_within, get_or_from_slice_get, slice_get-get_or}
use Rattle.std.proofs.lemmas.List.Elements.{All-head, All-tail, All-push, All-weaker}
use Rattle.std.proofs.lemmas.List.Folds.{list_any_at}
use Rattle.map_theory.specs.Maps.{StateMap}
use Rattle.state_sets.specs.Classes.{put_once, targets_of}
use Rattle.state_sets.specs.Parts.{pairs_of, AreClassed}
use Rattle.state_sets.proofs.PartsLemmas.{length-pairs_of}

-- a fact of what a put gives, from the list as it was and with the number at its end
pub put_cases : (P : List ℕ → Type 0) (ps : List ℕ) (p : ℕ) → P ps → P (ps ++ p ∷ []) → P (put_once ps p)
put_cases P ps p stays grows = cases (list_any (λ x. eqb p x) ps) refl
  where
    cases : (b : Bool) → list_any (λ x. eqb p x) ps ≡ b → P (put_once ps p)
    cases true is = subst P (sym (cond-true (list_any (λ x. eqb p x) ps) ps (ps ++ p ∷ []) is)) stays
    cases false is = subst P (sym (cond-false (list_any (λ x. eqb p x) ps) ps (ps ++ p ∷ []) is)) grows

get_before : (ps : List ℕ) (p k z : ℕ) → slice_get ps k ≡ Some z → slice_get (ps ++ p ∷ []) k ≡ Some z
get_before [] p k z is = absurd (cc is)
get_before (x ∷ ps) p zero z is = is
get_before (x ∷ ps) p (suc k) z is = get_before ps p k z is

pub put_keeps : (ps : List ℕ) (p k z : ℕ) → slice_get ps k ≡ Some z → slice_get (put_once ps p) k ≡ Some z
put_keeps ps p k z is = put_cases (λ l. slice_get l k ≡ Some z) ps p is (get_before ps p k z is)

any_at : (ps : List ℕ) (p k : ℕ) → slice_get ps k ≡ Some p → list_any (λ x. eqb p x) ps ≡ true
any_at ps p k is =
    list_any_at (λ x. eqb p x) ps k 0 (slice_get_within ps k p is) (eq-eqb p (get_or ps k 0) (sym (get_or_from_slice_get ps k p 0 is)))

pub put_known : (ps : List ℕ) (p k : ℕ) → slice_get ps k ≡ Some p → put_once ps p ≡ ps
put_known ps p k is = cond-true (list_any (λ x. eqb p x) ps) ps (ps ++ p ∷ []) (any_at ps p k is)

pub length_put : (ps : List ℕ) (p : ℕ) → length (put_once ps p) ≤ length ps + 1
length_put ps p = put_cases (λ l. length l ≤ length ps + 1) ps p (omega arith) (omega (arith, length-append ps (p ∷ [])))

targets_more : (seen : List ℕ) (m : StateMap) (pair : ℕ × ℕ) → fold put_once seen (map (λ x. x.1) (m ++ pair ∷ [])) ≡ put_once (fold put_once seen (map (λ x. x.1) m)) pair.1
targets_more seen [] pair = refl
targets_more seen (x ∷ m) pair = targets_more (put_once seen x.1) m pair

pub targets_push : (m : StateMap) (pair : ℕ × ℕ) → targets_of (m ++ pair ∷ []) ≡ put_once (targets_of m) pair.1
targets_push m pair = targets_more [] m pair

length_more : (seen : List ℕ) (m : StateMap) → length (fold put_once seen (map (λ x. x.1) m)) ≤ length seen + length m
length_more seen [] = omega arith
length_more seen (x ∷ m) = let step = length_more (put_once seen x.1) m in omega (arith, length_put seen x.1)

pub length-targets_of : (m : StateMap) → length (targets_of m) ≤ length m
length-targets_of m = omega (arith, length_more [] m)

-- ---- pairs by classes

pub pairs_push : (starts classes targets : List ℕ) (q k : ℕ) → length classes ≡ length starts → pairs_of (starts ++ q ∷ []) (classes ++ k ∷ []) targets ≡ pairs_of starts classes targets ++ (q, get_or targets k 0) ∷ []
pairs_push [] [] targets q k same = refl
pairs_push [] (j ∷ classes) targets q k same = absurd (omega arith)
pairs_push (x ∷ starts) [] targets q k same = absurd (omega arith)
pairs_push (x ∷ starts) (j ∷ classes) targets q k same = ap (λ m. (x, get_or targets j 0) ∷ m) (pairs_push starts classes targets q k (omega arith))

-- targets that have more behind give the same pairs
pub pairs_as : (starts classes targets more : List ℕ) → ((k z : ℕ) → slice_get targets k ≡ Some z → slice_get more k ≡ Some z) → All (λ k. k < length targets) classes → pairs_of starts classes more ≡ pairs_of starts classes targets
pairs_as [] classes targets more keeps within = refl
pairs_as (q ∷ starts) [] targets more keeps within = refl
pairs_as (q ∷ starts) (k ∷ classes) targets more keeps within =
    let inside : k < length targets = All-head (λ j. j < length targets) k classes within in
    let same : get_or more k 0 ≡ get_or targets k 0 = get_or_from_slice_get more k (get_or targets k 0) 0 (keeps k (get_or targets k 0) (slice_get-get_or targets k 0 inside)) in
    let rest = pairs_as starts classes targets more keeps (All-tail (λ j. j < length targets) k classes within) in
    λ i. (q, same i) ∷ rest i

pub put_pairs : (starts classes targets more : List ℕ) (q p k : ℕ) → AreClassed starts classes targets → more ≡ put_once targets p → slice_get more k ≡ Some p → pairs_of (starts ++ q ∷ []) (classes ++ k ∷ []) more ≡ pairs_of starts classes targets ++ (q, p) ∷ []
put_pairs starts classes targets more q p k are put is =
    pairs_push starts classes more q k are.lengths
    ∙ (λ i. pairs_as starts classes targets more (λ j z at. subst (λ l. slice_get l j ≡ Some z) (sym put) (put_keeps targets p j z at)) are.numbers i ++ (q, get_or_from_slice_get more k p 0 is i) ∷ [])

pub put_classed : (starts classes targets more : List ℕ) (q p k : ℕ) → AreClassed starts classes targets → more ≡ put_once targets p → slice_get more k ≡ Some p → AreClassed (starts ++ q ∷ []) (classes ++ k ∷ []) more
put_classed starts classes targets more q p k are put is = record {
  lengths = omega (arith, length-append starts (q ∷ []), length-append classes (k ∷ []), are.lengths);
  numbers = All-push (λ j. j < length more) classes k (All-weaker (λ j. j < length targets) (λ j. j < length more) (λ j within. omega (arith, longer)) classes are.numbers) (slice_get_within more k p is);
  different = put ∙ ap (λ l. put_once l p) are.different ∙ sym (targets_push (pairs_of starts classes targets) (q, p)) ∙ ap targets_of (sym (put_pairs starts classes targets more q p k are put is));
}
  where
    longer : length targets ≤ length more
    longer = subst (λ l. length targets ≤ length l) (sym put) (put_cases (λ l. length targets ≤ length l) targets p (omega arith) (omega (arith, length-append targets (p ∷ []))))

pub few_targets : (starts classes targets : List ℕ) → AreClassed starts classes targets → length targets ≤ length starts
few_targets starts classes targets are =
    omega (arith, ap length are.different, length-targets_of (pairs_of starts classes targets), length-pairs_of starts classes targets are.lengths)
