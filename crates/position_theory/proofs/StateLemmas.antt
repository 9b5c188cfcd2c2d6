-- Sets of strings, and how many states there are.
use Rattle.std.proofs.Common.{◌≡◌, ◌≢◌, ℕ, zero, suc, ◌+◌, ◌-◌, ◌<◌, ◌≤◌, ◌⊎◌, inl, inr, ⊎_elim, List, [], ◌∷◌, ◌++◌, length, drop, refl, sym, ◌∙◌, subst, append_assoc, arith}
use Rattle.std.specs.Prelude.{slice_get, Some}
use Rattle.std.proofs.lemmas.Bool.{cases_eq}
use Rattle.std.proofs.lemmas.List.{append-nil}
use Rattle.pattern_data.specs.declared.pattern.Pattern.{Pattern}
use Rattle.position_theory.specs.Positions.{ReachesOne}
use Rattle.position_theory.specs.States.{HaveSameSet, HaveDifferentSets, AreStates, IsAhead, SameStepLaw, FrontLaw, MoreStatesLaw}
use Rattle.position_theory.proofs.MatchLemmas.{one_some, some_behind}
use Rattle.position_theory.proofs.StepLemmas.{step_from_one, step_to_one}

-- ---- one more byte
same_ahead : (patterns : List Pattern) (u v : List ℕ) (t : ℕ) → (u ≡ [] → v ≡ []) → ((q : ℕ) → ReachesOne patterns u q → ReachesOne patterns v q) → IsAhead patterns u t → IsAhead patterns v t
same_ahead patterns u v t none same (inl (empty, first)) = inl (none empty, first)
same_ahead patterns u v t none same (inr (q, reach, follows)) = inr (q, same q reach, follows)

same_step_to : (patterns : List Pattern) (u v : List ℕ) (byte : ℕ) → (u ≡ [] → v ≡ []) → ((q : ℕ) → ReachesOne patterns u q → ReachesOne patterns v q) → (q : ℕ) → ReachesOne patterns (u ++ byte ∷ []) q → ReachesOne patterns (v ++ byte ∷ []) q
same_step_to patterns u v byte none same q reach =
    let h = step_from_one reach u byte refl in
    step_to_one patterns v byte q (same_ahead patterns u v q none same h.0) h.1

pub same_step : SameStepLaw
same_step patterns u v byte none same q = (same_step_to patterns u v byte none.0 (λ t. (same t).0) q, same_step_to patterns v u byte none.1 (λ t. (same t).1) q)

-- ---- fronts
ahead_some : (patterns : List Pattern) (u : List ℕ) (t : ℕ) → u ≢ [] → IsAhead patterns u t → (q : ℕ) × ReachesOne patterns u q
ahead_some patterns u t some (inl (empty, first)) = absurd (some empty)
ahead_some patterns u t some (inr (q, reach, follows)) = (q, reach)

pub front_reaches : FrontLaw
front_reaches patterns u [] q reach some = (q, subst (λ (w : List ℕ). ReachesOne patterns w q) (append-nil u) reach)
front_reaches patterns u (byte ∷ v) q reach some =
    let longer : u ++ byte ∷ [] ≢ [] = some_behind u (byte ∷ []) (λ e. cc) in
    let h = front_reaches patterns (u ++ byte ∷ []) v q (subst (λ (w : List ℕ). ReachesOne patterns w q) (sym (append_assoc u (byte ∷ []) v)) reach) longer in
    ahead_some patterns u h.0 some (step_from_one h.1 u byte refl).0

-- ---- not more things than places, where no two have one place
module _ (n : ℕ) (R : ℕ → ℕ → Type 0) where
  -- each thing has a place below the bound
  abbrev pub HasPlaces : ℕ → Type 0
  HasPlaces m = (j : ℕ) → j < n → (i : ℕ) × (i < m) × R j i

  abbrev pub NoTwoAtOne : Type 0
  NoTwoAtOne = (i j k : ℕ) → i < j → j < n → R i k → R j k → ⊥

-- the last thing's place is given to the one at the last place
abbrev Moved : (ℕ → ℕ → Type 0) → ℕ → ℕ → ℕ → ℕ → Type 0
Moved R n m j i = R j i ⊎ (R j m × R n i)

pub not_more : (m n : ℕ) (R : ℕ → ℕ → Type 0) → HasPlaces n R m → NoTwoAtOne n R → n ≤ m
not_more m zero R places apart = omega arith
not_more zero (suc n) R places apart = absurd (let h = places 0 (omega arith) in omega (arith, h.1))
not_more (suc m) (suc n) R places apart =
    let last = places n (omega arith) in
    let few : n ≤ m = not_more m n (Moved R n m)
    (λ j below.
    let h = places j (omega arith) in
    ⊎_elim
    (λ is. let here : R j m = subst (λ i. R j i) is h.2 in
    ⊎_elim (λ e. absurd (apart j n m below (omega arith) here (subst (λ i. R n i) e last.2))) (λ other. (last.0, omega (arith, last.1), inr (here, last.2))) (cases_eq last.0 m))
    (λ other. (h.0, omega (arith, h.1), inl h.2))
    (cases_eq h.0 m))
    (λ i j k less below a b. moved_apart i j k less below a b) in
    omega (arith, few)
  where
    moved_apart : (i j k : ℕ) → i < j → j < n → Moved R n m i k → Moved R n m j k → ⊥
    moved_apart i j k less below (inl a) (inl b) = apart i j k less (omega arith) a b
    moved_apart i j k less below (inl a) (inr b) = apart i n k (omega arith) (omega arith) a b.1
    moved_apart i j k less below (inr a) (inl b) = apart j n k below (omega arith) b a.1
    moved_apart i j k less below (inr a) (inr b) = apart i j m less (omega arith) a.0 b.0

-- ---- the number of states
pub get_at : {X : Type 0} (xs : List X) (k : ℕ) → k < length xs → (x : X) × (slice_get xs k ≡ Some x)
get_at [] k less = absurd (omega arith)
get_at (x ∷ xs) zero less = (x, refl)
get_at (x ∷ xs) (suc k) less = get_at xs k (omega arith)

pub get_below : {X : Type 0} (xs : List X) (k : ℕ) (x : X) → slice_get xs k ≡ Some x → k < length xs
get_below [] k x is = absurd (cc)
get_below (y ∷ xs) zero x is = omega arith
get_below (y ∷ xs) (suc k) x is = let h = get_below xs k x is in omega (arith, h)

module _ (patterns : List Pattern) (words some : List (List ℕ)) (are : AreStates patterns words) (differ : HaveDifferentSets patterns some) where
  abbrev StandsFor : ℕ → ℕ → Type 0
  StandsFor j i = (w : List ℕ) × (u : List ℕ) × (slice_get some j ≡ Some w) × (slice_get words (suc i) ≡ Some u) × HaveSameSet patterns u w

  no_start : (w u : List ℕ) (q : ℕ) → slice_get words 0 ≡ Some u → HaveSameSet patterns u w → ReachesOne patterns w q → ⊥
  no_start w u q at same reach =
      let both : Some u ≡ Some [] = sym at ∙ are.start in
      let empty : u ≡ [] = cc in
      one_some ((same q).1 reach) empty

  stands_at : (j : ℕ) (w : List ℕ) (q : ℕ) → slice_get some j ≡ Some w → ReachesOne patterns w q → (i : ℕ) (u : List ℕ) → slice_get words i ≡ Some u → HaveSameSet patterns u w → (i : ℕ) × (i < length words - 1) × StandsFor j i
  stands_at j w q here reach zero u at same = absurd (no_start w u q at same reach)
  stands_at j w q here reach (suc i) u at same = let below = get_below words (suc i) u at in (i, omega (arith, below), (w, u, here, at, same))

  has_places : HasPlaces (length some) StandsFor (length words - 1)
  has_places j below =
      let w = get_at some j below in
      let q = differ.some j w.0 w.1 in
      let h = are.every w.0 (differ.bytes j w.0 w.1) q.0 q.1 in
      stands_at j w.0 q.0 w.1 q.1 h.0 h.1 h.2 h.3

  at_one : (i j : ℕ) (u v w x : List ℕ) → i < j → slice_get some i ≡ Some u → slice_get some j ≡ Some v → Some w ≡ Some x → HaveSameSet patterns w u → HaveSameSet patterns x v → ⊥
  at_one i j u v w x less here there both a b =
      let same : w ≡ x = cc in
      let c = subst (λ (y : List ℕ). HaveSameSet patterns y u) same a in
      differ.different i j u v less here there (λ q. (λ reach. (b q).0 ((c q).1 reach), λ reach. (c q).0 ((b q).1 reach)))

  pub count_below : 1 + length some ≤ length words
  count_below =
      let h = not_more (length words - 1) (length some) StandsFor has_places
      (λ i j k less below a b. at_one i j a.0 b.0 a.1 b.1 less a.2 b.2 (sym a.3 ∙ b.3) a.4 b.4) in
      let start = get_below words 0 [] are.start in
      omega (arith, h, start)

pub more_states : MoreStatesLaw
more_states patterns words limit are = (
  λ more. let h = count_below patterns words more.0 are more.1 in let few = more.2 in omega (arith, h, few),
  λ above. (drop 1 words, are.others, tail_length words above),
)
  where
    tail_length : (words : List (List ℕ)) → limit < length words → limit < 1 + length (drop 1 words)
    tail_length [] above = omega arith
    tail_length (w ∷ words) above = omega arith
