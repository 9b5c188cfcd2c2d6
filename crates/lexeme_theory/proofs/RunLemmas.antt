-- There is one run from a place on.
use Rattle.std.proofs.Common.{◌≡◌, ℕ, zero, suc, ◌+◌, ◌-◌, ◌<◌, ◌≤◌, Bool, true, false, refl, sym, ◌∙◌, subst, ⊎_elim, arith}
use Rattle.std.proofs.lemmas.Bool.{false≢true, cases_lt}
use Rattle.lexeme_theory.specs.Runs.{IsRun}

shorter : (goes : ℕ → Bool) (limit from one other : ℕ) → one < other → IsRun goes limit from one → IsRun goes limit from other → ⊥
shorter goes limit from one other less a b =
    let inside : other ≤ limit = b.inside in
    false≢true (sym (a.ended (omega arith)) ∙ b.each one a.ordered less)

pub run_once : (goes : ℕ → Bool) (limit from one other : ℕ) → IsRun goes limit from one → IsRun goes limit from other → one ≡ other
run_once goes limit from one other a b =
    ⊎_elim
    (λ less. absurd (shorter goes limit from one other less a b))
    (λ least. ⊎_elim (λ less. absurd (shorter goes limit from other one less b a)) (λ most. omega arith) (cases_lt other one))
    (cases_lt one other)

run_more : (goes : ℕ → Bool) (limit from to : ℕ) → goes from ≡ true → IsRun goes limit (from + 1) to → IsRun goes limit from to
run_more goes limit from to first run = record {
  ordered = let h : from + 1 ≤ to = run.ordered in omega arith;
  inside = run.inside;
  each = λ i above below.
      ⊎_elim
      (λ later. run.each i (omega arith) below)
      (λ here. let same : from ≡ i = omega arith in let P : ℕ → Type 0 = λ n. goes n ≡ true in subst P same first)
      (cases_lt from i);
  ended = run.ended;
}

run_none : (goes : ℕ → Bool) (limit from : ℕ) → from ≤ limit → (from < limit → goes from ≡ false) → IsRun goes limit from from
run_none goes limit from inside ended = record { ordered = omega arith; inside = inside; each = λ i above below. absurd (omega arith); ended = ended }

run_by : (goes : ℕ → Bool) (limit from : ℕ) → from ≤ limit → (b : Bool) → goes from ≡ b → ((to : ℕ) × IsRun goes limit (from + 1) to) → (to : ℕ) × IsRun goes limit from to
run_by goes limit from inside true e rest = (rest.0, run_more goes limit from rest.0 e rest.1)
run_by goes limit from inside false e rest = (from, run_none goes limit from inside (λ below. e))

run_from : (goes : ℕ → Bool) (limit fuel from : ℕ) → from + fuel ≡ limit → (to : ℕ) × IsRun goes limit from to
run_from goes limit zero from all = (from, run_none goes limit from (omega arith) (λ below. absurd (omega arith)))
run_from goes limit (suc fuel) from all =
    run_by goes limit from (omega arith) (goes from) refl (run_from goes limit fuel (from + 1) (omega arith))

pub run_some : (goes : ℕ → Bool) (limit from : ℕ) → from ≤ limit → (to : ℕ) × IsRun goes limit from to
run_some goes limit from inside = run_from goes limit (limit - from) from (omega arith)

-- a run is not empty where it goes on at its beginning
pub run_nonempty : (goes : ℕ → Bool) (limit from to : ℕ) → from < limit → goes from ≡ true → IsRun goes limit from to → from < to
run_nonempty goes limit from to below first run =
    let ordered : from ≤ to = run.ordered in
    ⊎_elim
    (λ less. less)
    (λ least. let same : to ≡ from = omega arith in let P : ℕ → Type 0 = λ n. n < limit → goes n ≡ false in absurd (false≢true (sym (subst P same run.ended below) ∙ first)))
    (cases_lt from to)
