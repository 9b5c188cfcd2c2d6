-- Maps by their targets.
use Rattle.std.proofs.Common.{◌≡◌, ◌≢◌, ℕ, suc, ◌<◌, ◌⊎◌, inl, inr, Bool, true, false, cond, eqb, [], ◌∷◌, ◌++◌, Option, Some, None, refl, sym, ap, ◌∙◌, arith}
use Rattle.std.specs.Prelude.{All, filter, option_and_then}
use Rattle.std.specs.List.{cons_option}
use Rattle.std.specs.Option.{option_map}
use Rattle.std.proofs.lemmas.Bool.{eq-eqb, ne_eqb, cases_eq, cases_order, cases_Bool, cond-true, cond-false}
use Rattle.std.proofs.lemmas.List.Elements.{All-cons, All-head, All-tail, All-weaker}
use Rattle.std.proofs.lemmas.List.Kept.{AllPairs-cons, AllPairs-filter}
use Rattle.std.proofs.lemmas.Option.{none-some, same_Some}
use Rattle.table_data.specs.Tables.{step_by}
use Rattle.map_theory.specs.Maps.{StateMap, target, IsRising, walk_by, followed}
use Rattle.map_theory.specs.Laws.{OneMapLaw, FollowedLaw, KeepLaw, WalkLaw}

-- all starts of the map are above this
abbrev pub IsAbove : ℕ → StateMap → Type 0
IsAbove q m = All (λ x. q < x.0) m

pub rising_tail : (pair : ℕ × ℕ) (m : StateMap) → IsRising (pair ∷ m) → IsRising m
rising_tail pair m rising = λ i j d before within. rising (suc i) (suc j) d (omega arith) (omega arith)

pub rising_above : (pair : ℕ × ℕ) (m : StateMap) → IsRising (pair ∷ m) → IsAbove pair.0 m
rising_above pair m rising = λ k d within. rising 0 (suc k) d (omega arith) (omega arith)

pub target_at : (pair : ℕ × ℕ) (m : StateMap) (q : ℕ) → pair.0 ≡ q → target (pair ∷ m) q ≡ Some pair.1
target_at pair m q same = cond-true (eqb pair.0 q) (Some pair.1) (target m q) (eq-eqb pair.0 q same)

pub target_other : (pair : ℕ × ℕ) (m : StateMap) (q : ℕ) → pair.0 ≢ q → target (pair ∷ m) q ≡ target m q
target_other pair m q other = cond-false (eqb pair.0 q) (Some pair.1) (target m q) (ne_eqb pair.0 q other)

pub target_above : (m : StateMap) (q : ℕ) → IsAbove q m → target m q ≡ None
target_above [] q above = refl
target_above (pair ∷ m) q above =
    let first : q < pair.0 = All-head (λ x. q < x.0) pair m above in
    target_other pair m q (λ e. absurd (omega arith)) ∙ target_above m q (All-tail (λ x. q < x.0) pair m above)

pub above_first : (pair : ℕ × ℕ) (m : StateMap) (q : ℕ) → q < pair.0 → IsRising (pair ∷ m) → IsAbove q (pair ∷ m)
above_first pair m q before rising =
    All-cons (λ x. q < x.0) pair m before (All-weaker (λ x. pair.0 < x.0) (λ x. q < x.0) (λ x later. omega arith) m (rising_above pair m rising))

-- a start stands once
pub target_later : (pair : ℕ × ℕ) (m : StateMap) (q p : ℕ) → IsRising (pair ∷ m) → target m q ≡ Some p → target (pair ∷ m) q ≡ Some p
target_later pair m q p rising is =
    target_other pair m q (λ e. none-some p (sym (target_above m pair.0 (rising_above pair m rising)) ∙ ap (target m) e ∙ is)) ∙ is

pub target_cases : (pair : ℕ × ℕ) (m : StateMap) (q p : ℕ) → target (pair ∷ m) q ≡ Some p → (pair.1 ≡ p) ⊎ (target m q ≡ Some p)
target_cases pair m q p is = cases (cases_eq pair.0 q)
  where
    cases : (pair.0 ≡ q) ⊎ (pair.0 ≡ q → ⊥) → (pair.1 ≡ p) ⊎ (target m q ≡ Some p)
    cases (inl same) = inl (same_Some pair.1 p (sym (target_at pair m q same) ∙ is))
    cases (inr other) = inr (sym (target_other pair m q other) ∙ is)

-- ---- one map for its targets

pub same_targets : (m n : StateMap) → IsRising m → IsRising n → ((q : ℕ) → target m q ≡ target n q) → m ≡ n
same_targets [] [] rm rn same = refl
same_targets [] (y ∷ n) rm rn same = absurd (none-some y.1 (same y.0 ∙ target_at y n y.0 refl))
same_targets (x ∷ m) [] rm rn same = absurd (none-some x.1 (sym (same x.0) ∙ target_at x m x.0 refl))
same_targets (x ∷ m) (y ∷ n) rm rn same = cases (cases_order x.0 y.0) (same_targets m n (rising_tail x m rm) (rising_tail y n rn))
  where
    tails : x.0 ≡ y.0 → (q : ℕ) → (x.0 ≡ q) ⊎ (x.0 ≡ q → ⊥) → target m q ≡ target n q
    tails start q (inl at) =
        ap (target m) (sym at) ∙ target_above m x.0 (rising_above x m rm) ∙ sym (target_above n y.0 (rising_above y n rn)) ∙ ap (target n) (sym start ∙ at)
    tails start q (inr other) =
        sym (target_other x m q other) ∙ same q ∙ target_other y n q (λ e. other (start ∙ e))

    cases : (x.0 ≡ y.0) ⊎ ((x.0 < y.0) ⊎ (y.0 < x.0)) → (((q : ℕ) → target m q ≡ target n q) → m ≡ n) → x ∷ m ≡ y ∷ n
    cases (inl start) go =
        let end : x.1 ≡ y.1 = same_Some x.1 y.1 (sym (target_at x m x.0 refl) ∙ same x.0 ∙ target_at y n x.0 (sym start)) in
        let rest : m ≡ n = go (λ q. tails start q (cases_eq x.0 q)) in
        λ i. (start i, end i) ∷ rest i
    cases (inr (inl before)) go =
        absurd (none-some x.1 (sym (target_above (y ∷ n) x.0 (above_first y n x.0 before rn)) ∙ sym (same x.0) ∙ target_at x m x.0 refl))
    cases (inr (inr after)) go =
        absurd (none-some y.1 (sym (target_above (x ∷ m) y.0 (above_first x m y.0 after rm)) ∙ same y.0 ∙ target_at y n y.0 refl))

pub one_map_law : OneMapLaw
one_map_law f m n is also = same_targets m n is.rising also.rising (λ q. is.targets q ∙ sym (also.targets q))

-- ---- what a function makes of the targets

-- a map with a pair in front, where there is a target
abbrev pub put_first : ℕ → Option ℕ → StateMap → StateMap
put_first q o m = cons_option (option_map (λ p. (q, p)) o) m

above_put : (z q : ℕ) (o : Option ℕ) (m : StateMap) → z < q → IsAbove z m → IsAbove z (put_first q o m)
above_put z q None m before above = above
above_put z q (Some p) m before above = All-cons (λ x. z < x.0) (q, p) m before above

rising_put : (q : ℕ) (o : Option ℕ) (m : StateMap) → IsAbove q m → IsRising m → IsRising (put_first q o m)
rising_put q None m above rising = rising
rising_put q (Some p) m above rising = AllPairs-cons (λ x y. x.0 < y.0) (q, p) m above rising

target_put : (q : ℕ) (o : Option ℕ) (m : StateMap) → IsAbove q m → target (put_first q o m) q ≡ o
target_put q None m above = target_above m q above
target_put q (Some p) m above = target_at (q, p) m q refl

target_put_other : (q : ℕ) (o : Option ℕ) (m : StateMap) (z : ℕ) → q ≢ z → target (put_first q o m) z ≡ target m z
target_put_other q None m z other = refl
target_put_other q (Some p) m z other = target_other (q, p) m z other

pub followed_above : (f : ℕ → ℕ → Option ℕ) (z : ℕ) (m : StateMap) → IsAbove z m → IsAbove z (followed f m)
followed_above f z [] above = above
followed_above f z (pair ∷ m) above =
    above_put z pair.0 (f pair.0 pair.1) (followed f m) (All-head (λ x. z < x.0) pair m above) (followed_above f z m (All-tail (λ x. z < x.0) pair m above))

pub followed_rising : (f : ℕ → ℕ → Option ℕ) (m : StateMap) → IsRising m → IsRising (followed f m)
followed_rising f [] rising = rising
followed_rising f (pair ∷ m) rising =
    rising_put pair.0 (f pair.0 pair.1) (followed f m) (followed_above f pair.0 m (rising_above pair m rising)) (followed_rising f m (rising_tail pair m rising))

pub followed_targets : (f : ℕ → ℕ → Option ℕ) (m : StateMap) → IsRising m → (q : ℕ) → target (followed f m) q ≡ option_and_then (f q) (target m q)
followed_targets f [] rising q = refl
followed_targets f (pair ∷ m) rising q = cases (cases_eq pair.0 q) (followed_targets f m (rising_tail pair m rising) q)
  where
    cases : (pair.0 ≡ q) ⊎ (pair.0 ≡ q → ⊥) → target (followed f m) q ≡ option_and_then (f q) (target m q) → target (put_first pair.0 (f pair.0 pair.1) (followed f m)) q ≡ option_and_then (f q) (target (pair ∷ m) q)
    cases (inl same) go =
        ap (target (put_first pair.0 (f pair.0 pair.1) (followed f m))) (sym same)
        ∙ target_put pair.0 (f pair.0 pair.1) (followed f m) (followed_above f pair.0 m (rising_above pair m rising))
        ∙ ap (λ z. f z pair.1) same ∙ sym (ap (option_and_then (f q)) (target_at pair m q same))
    cases (inr other) go =
        target_put_other pair.0 (f pair.0 pair.1) (followed f m) q other ∙ go ∙ sym (ap (option_and_then (f q)) (target_other pair m q other))

pub followed_law : FollowedLaw
followed_law f m rising = record { rising = followed_rising f m rising; targets = followed_targets f m rising }

-- ---- pairs whose starts pass a test

pub kept_targets : (keep : ℕ → Bool) (m : StateMap) (q : ℕ) → target (filter (λ pair. keep pair.0) m) q ≡ cond (keep q) (target m q) None
kept_targets keep [] q = nothing (keep q)
  where
    nothing : (b : Bool) → target [] q ≡ cond b (target [] q) None
    nothing true = refl
    nothing false = refl
kept_targets keep (pair ∷ m) q = cases (cases_eq pair.0 q) (cases_Bool (keep pair.0)) (kept_targets keep m q)
  where
    cases : (pair.0 ≡ q) ⊎ (pair.0 ≡ q → ⊥) → (keep pair.0 ≡ true) ⊎ (keep pair.0 ≡ false) → target (filter (λ pair. keep pair.0) m) q ≡ cond (keep q) (target m q) None → target (cond (keep pair.0) (pair ∷ filter (λ pair. keep pair.0) m) (filter (λ pair. keep pair.0) m)) q ≡ cond (keep q) (target (pair ∷ m) q) None
    cases (inl same) (inl passes) go =
        ap (λ l. target l q) (cond-true (keep pair.0) (pair ∷ filter (λ pair. keep pair.0) m) (filter (λ pair. keep pair.0) m) passes)
        ∙ target_at pair (filter (λ pair. keep pair.0) m) q same ∙ sym (target_at pair m q same)
        ∙ sym (cond-true (keep q) (target (pair ∷ m) q) None (ap keep (sym same) ∙ passes))
    cases (inl same) (inr fails) go =
        let fails_at : keep q ≡ false = ap keep (sym same) ∙ fails in
        ap (λ l. target l q) (cond-false (keep pair.0) (pair ∷ filter (λ pair. keep pair.0) m) (filter (λ pair. keep pair.0) m) fails)
        ∙ go ∙ cond-false (keep q) (target m q) None fails_at ∙ sym (cond-false (keep q) (target (pair ∷ m) q) None fails_at)
    cases (inr other) (inl passes) go =
        ap (λ l. target l q) (cond-true (keep pair.0) (pair ∷ filter (λ pair. keep pair.0) m) (filter (λ pair. keep pair.0) m) passes)
        ∙ target_other pair (filter (λ pair. keep pair.0) m) q other ∙ go ∙ sym (ap (λ o. cond (keep q) o None) (target_other pair m q other))
    cases (inr other) (inr fails) go =
        ap (λ l. target l q) (cond-false (keep pair.0) (pair ∷ filter (λ pair. keep pair.0) m) (filter (λ pair. keep pair.0) m) fails)
        ∙ go ∙ sym (ap (λ o. cond (keep q) o None) (target_other pair m q other))

pub keep_law : KeepLaw
keep_law keep m rising = record { rising = AllPairs-filter (λ x y. x.0 < y.0) (λ pair. keep pair.0) m rising; targets = kept_targets keep m }

-- ---- walks

pub walk_law : WalkLaw
walk_law t q [] ys = refl
walk_law t q (x ∷ xs) ys = cases (step_by t q x) (λ p. walk_law t p xs ys)
  where
    cases : (o : Option ℕ) → ((p : ℕ) → walk_by t p (xs ++ ys) ≡ option_and_then (λ z. walk_by t z ys) (walk_by t p xs)) → option_and_then (λ p. walk_by t p (xs ++ ys)) o ≡ option_and_then (λ z. walk_by t z ys) (option_and_then (λ p. walk_by t p xs) o)
    cases None go = refl
    cases (Some p) go = go p
