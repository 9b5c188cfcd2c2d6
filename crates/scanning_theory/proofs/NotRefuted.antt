-- What isn't refuted: where no test decides a fact, a least or a greatest number with it isn't refuted.
use Rattle.std.proofs.Common.{◌≡◌, ℕ, zero, suc, ◌<◌, ◌≤◌, ◌⊎◌, subst, inl, inr, ⊎_elim, arith}
use Rattle.std.proofs.lemmas.Bool.{cases_lt}

abbrev pub NotRefuted : Type 0 → Type 0
NotRefuted P = (P → ⊥) → ⊥

pub decided : (P : Type 0) → NotRefuted (P ⊎ (P → ⊥))
decided P refuted = refuted (inr (λ p. refuted (inl p)))

-- a number with the fact, and none below has it
abbrev pub HasLeast : (ℕ → Type 0) → Type 0
HasLeast Q = (r : ℕ) × Q r × ((o : ℕ) → Q o → r ≤ o)

-- a number with the fact, and none above it and below the bound has it
abbrev pub HasGreatest : (ℕ → Type 0) → ℕ → Type 0
HasGreatest Q bound = (r : ℕ) × Q r × ((o : ℕ) → o < bound → Q o → o ≤ r)

abbrev pub HasNone : (ℕ → Type 0) → ℕ → Type 0
HasNone Q bound = (r : ℕ) → r < bound → Q r → ⊥

HasNone-more : (Q : ℕ → Type 0) (n : ℕ) → HasNone Q n → (Q n → ⊥) → HasNone Q (suc n)
HasNone-more Q n none refuted r below has =
    ⊎_elim (λ lower. none r lower has) (λ upper. let same : r ≡ n = omega arith in refuted (subst Q same has)) (cases_lt r n)

least_here : (Q : ℕ → Type 0) (n : ℕ) → HasNone Q n → Q n → HasLeast Q
least_here Q n none has = (n, has, λ o other. ⊎_elim (λ lower. absurd (none o lower other)) (λ upper. upper) (cases_lt o n))

pub least : (Q : ℕ → Type 0) (n : ℕ) → NotRefuted (HasNone Q n ⊎ HasLeast Q)
least Q zero refuted = refuted (inl (λ r below has. omega arith))
least Q (suc n) refuted =
    least Q n (λ found. ⊎_elim
    (λ none. decided (Q n) (λ d. ⊎_elim (λ has. refuted (inr (least_here Q n none has))) (λ not. refuted (inl (HasNone-more Q n none not))) d))
    (λ h. refuted (inr h))
    found)

greatest_more : (Q : ℕ → Type 0) (n : ℕ) → HasGreatest Q n → (Q n → ⊥) → HasGreatest Q (suc n)
greatest_more Q n (r, has, above) not =
    (r, has, λ o below other. ⊎_elim (λ lower. above o lower other) (λ upper. let same : o ≡ n = omega arith in absurd (not (subst Q same other))) (cases_lt o n))

pub greatest : (Q : ℕ → Type 0) (n : ℕ) → NotRefuted (HasNone Q n ⊎ HasGreatest Q n)
greatest Q zero refuted = refuted (inl (λ r below has. omega arith))
greatest Q (suc n) refuted =
    decided (Q n) (λ d. ⊎_elim
    (λ has. refuted (inr (n, has, λ o below other. omega arith)))
    (λ not. greatest Q n (λ found. ⊎_elim (λ none. refuted (inl (HasNone-more Q n none not))) (λ h. refuted (inr (greatest_more Q n h not))) found))
    d)
