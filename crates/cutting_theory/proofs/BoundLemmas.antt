-- Even bounds, and bounds at listed lines, are cuttings.
use Rattle.std.proofs.Common.{◌≡◌, ℕ, zero, suc, ◌+◌, ◌*◌, ◌/◌, ◌<◌, ◌≤◌, List, [], ◌∷◌, ◌++◌, length, map, slice_get, Option, Some, refl, sym, ap, ◌∙◌, arith}
use Rattle.std.proofs.lemmas.List.{length-map}
use Rattle.std.proofs.lemmas.Nat.{div-add-mod', div-mul-add, le-div}
use Rattle.cutting_theory.specs.declared.limits.TheConstants.{SEGMENTS}
use Rattle.cutting_theory.specs.Cuttings.{IsCutting, IsEven, AreBegins, begin_of, bounds_at, IsNeverFalling, segments_of}

-- what stands in a list stands before its end
pub inside : {X : Type 0} (xs : List X) (i : ℕ) (x : X) → slice_get xs i ≡ Some x → i < length xs
inside [] i x e = absurd (cc)
inside (y ∷ xs) zero x e = omega arith
inside (y ∷ xs) (suc i) x e = let less : i < length xs = inside xs i x e in omega arith

-- the next place of a list with one more at its front
pub at_next : {X : Type 0} (x : X) (xs : List X) (i : ℕ) → slice_get (x ∷ xs) (i + 1) ≡ slice_get xs i
at_next x xs i = let next : i + 1 ≡ suc i = omega arith in ap (slice_get (x ∷ xs)) next

-- and one further on
pub at_second : {X : Type 0} (x : X) (xs : List X) (i : ℕ) → slice_get (x ∷ xs) (suc i + 1) ≡ slice_get xs (i + 1)
at_second x xs i = let next : suc i + 1 ≡ suc (i + 1) = omega arith in ap (slice_get (x ∷ xs)) next

one_of : {x y : ℕ} {o : Option ℕ} → o ≡ Some x → o ≡ Some y → x ≡ y
one_of p q = cc

-- ---- even bounds

even_rises : (lines k i low high : ℕ) → 0 < k → low ≡ (i * lines) / k → high ≡ ((i + 1) * lines) / k → low ≤ high
even_rises lines k i low high some p q =
    let under : (i * lines) / k * k ≤ i * lines = let parts = div-add-mod' (i * lines) k in omega arith in
    let next : i * lines ≤ (i + 1) * lines = omega arith in
    let over : (i * lines) / k ≤ ((i + 1) * lines) / k = le-div ((i * lines) / k) ((i + 1) * lines) k some (omega arith) in
    omega arith

pub even_cuts : (lines k : ℕ) (bounds : List ℕ) → 1 ≤ k → k ≤ SEGMENTS → IsEven lines k bounds → IsCutting lines bounds
even_cuts lines k bounds some few even = record {
  some = omega arith;
  few = omega arith;
  begins = even.each 0 (omega arith) ∙ ap Some none;
  ends = ap (slice_get bounds) last ∙ even.each k (omega arith) ∙ ap Some whole;
  rising = λ i low high p q. let less : i + 1 < length bounds = inside bounds (i + 1) high q in even_rises lines k i low high (omega arith) (one_of p (even.each i (omega arith))) (one_of q (even.each (i + 1) (omega arith)));
}
  where
    none : (0 * lines) / k ≡ 0
    none = ap (λ n. n / k) (omega arith) ∙ div-mul-add 0 k 0 (omega arith)

    last : segments_of bounds ≡ k
    last = let many = even.many in omega arith

    whole : (k * lines) / k ≡ lines
    whole = ap (λ n. n / k) (omega arith) ∙ div-mul-add lines k 0 (omega arith)

-- ---- bounds at listed lines

rises_more : (x y : ℕ) (rest : List ℕ) → x ≤ y → IsNeverFalling (y ∷ rest) → IsNeverFalling (x ∷ y ∷ rest)
rises_more x y rest less more zero low high p q = let a : x ≡ low = cc in let b : y ≡ high = cc in omega arith
rises_more x y rest less more (suc i) low high p q = more i low high p (sym (at_second x (y ∷ rest) i) ∙ q)

last_rises : (lines : ℕ) → IsNeverFalling (lines ∷ [])
last_rises lines i low high p q = let none : slice_get {X = ℕ} [] i ≡ Some high = sym (at_next lines [] i) ∙ q in absurd (cc)

begins_rise : (lines : ℕ) (begins : List ℕ) → IsNeverFalling begins → IsNeverFalling (map (begin_of lines) begins ++ lines ∷ [])
begins_rise lines [] falls = last_rises lines
begins_rise lines (x ∷ []) falls = rises_more (begin_of lines x) lines [] (omega arith) (last_rises lines)
begins_rise lines (x ∷ y ∷ rest) falls =
    rises_more (begin_of lines x) (begin_of lines y) (map (begin_of lines) rest ++ lines ∷ []) (let less : x ≤ y = falls 0 x y refl refl in omega arith)
    (begins_rise lines (y ∷ rest) (λ i low high p q. falls (suc i) low high p (at_second x (y ∷ rest) i ∙ q)))

last_at : (xs : List ℕ) (x : ℕ) → slice_get (xs ++ x ∷ []) (length xs) ≡ Some x
last_at [] x = refl
last_at (y ∷ xs) x = last_at xs x

one_more : (xs : List ℕ) (x : ℕ) → length (xs ++ x ∷ []) ≡ length xs + 1
one_more [] x = refl
one_more (y ∷ xs) x = let e = one_more xs x in omega arith

zero_first : (bounds : List ℕ) → IsNeverFalling bounds → IsNeverFalling (0 ∷ bounds)
zero_first bounds rises zero low high p q = let a : 0 ≡ low = cc in omega arith
zero_first bounds rises (suc i) low high p q = rises i low high p (sym (at_second 0 bounds i) ∙ q)

-- the number of segments
at_many : (lines : ℕ) (begins : List ℕ) → segments_of (bounds_at lines begins) ≡ suc (length begins)
at_many lines begins =
    let more : length (map (begin_of lines) begins ++ lines ∷ []) ≡ length begins + 1 = one_more (map (begin_of lines) begins) lines ∙ ap (λ n. n + 1) (length-map begins (begin_of lines)) in
    let whole : length (bounds_at lines begins) ≡ suc (length (map (begin_of lines) begins ++ lines ∷ [])) = refl in
    omega arith

pub at_cuts : (lines : ℕ) (begins : List ℕ) → AreBegins begins → IsCutting lines (bounds_at lines begins)
at_cuts lines begins are = record {
  some = let many = at_many lines begins in omega arith;
  few = let many = at_many lines begins in let few = are.few in omega arith;
  begins = refl;
  ends = ap (slice_get (bounds_at lines begins)) last ∙ last_at (map (begin_of lines) begins) lines;
  rising = zero_first (map (begin_of lines) begins ++ lines ∷ []) (begins_rise lines begins are.order);
}
  where
    last : segments_of (bounds_at lines begins) ≡ suc (length (map (begin_of lines) begins))
    last = at_many lines begins ∙ ap suc (sym (length-map begins (begin_of lines)))
