-- Steps of the runs.
use Rattle.std.proofs.Common.{◌≡◌, ℕ, suc, ◌+◌, ◌-◌, ◌<◌, ◌≤◌, ◌⊎◌, Bool, true, false, List, get_or, sym, ap, inl, inr, subst, ◌∙◌, ⊎_elim, arith}
use Rattle.std.specs.Prelude.{◌==◌, ◌&&◌, not}
use Rattle.std.proofs.lemmas.Bool.{cases_lt, false≢true, eq-eqb, eqb-true}
use Rattle.std.proofs.lemmas.Bool.Decides.{eqb_tells}
use Rattle.sheet_theory.specs.Names.{backslash}
use Rattle.lexeme_theory.specs.Texts.{is_taken_at}

pub each_more : (goes : ℕ → Bool) (from to : ℕ) → ((i : ℕ) → from ≤ i → i < to → goes i ≡ true) → goes to ≡ true → (i : ℕ) → from ≤ i → i < to + 1 → goes i ≡ true
each_more goes from to each last i above below =
    ⊎_elim
    (λ before. each i above before)
    (λ here. let same : to ≡ i = omega arith in let P : ℕ → Type 0 = λ n. goes n ≡ true in subst P same last)
    (cases_lt i to)

pub taken_more : (bytes : List ℕ) (from to : ℕ) → from ≤ to → is_taken_at bytes from (to + 1 - from) ≡ ((get_or bytes to 0 == backslash) && not (is_taken_at bytes from (to - from)))
taken_more bytes from to order =
    let next : to + 1 - from ≡ suc (to - from) = omega arith in
    let here : from + (to - from) ≡ to = omega arith in
    ap (is_taken_at bytes from) next ∙ ap (λ k. (get_or bytes k 0 == backslash) && not (is_taken_at bytes from (to - from))) here

pub not_equal : (a b : ℕ) → (a ≡ b → ⊥) → (a == b) ≡ false
not_equal a b apart = ⊎_elim (λ t. absurd (apart t.1)) (λ f. f.0) (eqb_tells a b)

pub nonempty : (size : ℕ) → false ≡ (size == 0) → 0 < size
nonempty size e = ⊎_elim (λ none. let same : size ≡ 0 = omega arith in absurd (false≢true (e ∙ eq-eqb size 0 same))) (λ some. some) (cases_lt_or 0 size) where
  cases_lt_or : (m n : ℕ) → (n ≤ m) ⊎ (m < n)
  cases_lt_or m n = ⊎_elim (λ less. inr less) (λ more. inl more) (cases_lt m n)

pub empty : (size : ℕ) → true ≡ (size == 0) → size ≡ 0
empty size e = eqb-true size 0 (sym e)
