-- The expected tokens below a bound, and one token more.
use Rattle.std.proofs.Common.{◌≡◌, ◌≢◌, ℕ, ◌+◌, ◌<◌, ◌≤◌, ⊎_elim, List, [], ◌∷◌, ◌++◌, length, get_or, Contains, refl, sym, subst, arith}
use Rattle.std.specs.List.Sorted.{IsStrictlyIncreasing}
use Rattle.std.proofs.Math.Seq.{get_or-append_seam}
use Rattle.std.proofs.lemmas.Bool.{cases_lt}
use Rattle.std.proofs.lemmas.List.{get_or_append_left}
use Rattle.std.proofs.lemmas.List.{length_push}
use Rattle.std.proofs.lemmas.List.Elements.{Contains-get_or, Contains-push, Contains-push_cases, Contains-append_left}
use Rattle.table_data.specs.declared.act.Act.{Act}
use Rattle.table_data.specs.declared.act.Act.TheVariants.{Shift, Reduce, Accept, Error}
use Rattle.table_data.specs.Tables.{Tables, act_in}

-- the tokens below the bound on which the state's action isn't an error, in order
pub record AreExpectedBelow (t : Tables) (q bound : ℕ) (tokens : List ℕ) : Type 0 where
  pub rising : IsStrictlyIncreasing tokens
  pub has : (a : ℕ) → a < bound → act_in t q a ≢ Error → Contains tokens a
  pub below : (a : ℕ) → Contains tokens a → a < bound
  pub expected : (a : ℕ) → Contains tokens a → act_in t q a ≢ Error

nothing_in : {a : ℕ} → Contains [] a → ⊥
nothing_in has = omega (arith, has.1)

rising_push : (xs : List ℕ) (n : ℕ) → IsStrictlyIncreasing xs → ((a : ℕ) → Contains xs a → a < n) → IsStrictlyIncreasing (xs ++ n ∷ [])
rising_push xs n rising below k less = ⊎_elim inside seam (cases_lt (k + 1) (length xs))
  where
    size : length (xs ++ n ∷ []) ≡ length xs + 1
    size = length_push xs n

    inside : k + 1 < length xs → get_or (xs ++ n ∷ []) k 0 < get_or (xs ++ n ∷ []) (k + 1) 0
    inside within =
        let first = get_or_append_left xs (n ∷ []) 0 k (omega arith) in
        let second = get_or_append_left xs (n ∷ []) 0 (k + 1) within in
        let old = rising k within in
        omega (arith, first, second, old)

    seam : length xs ≤ k + 1 → get_or (xs ++ n ∷ []) k 0 < get_or (xs ++ n ∷ []) (k + 1) 0
    seam past =
        let at : length xs ≡ k + 1 = omega (arith, size, less) in
        let first = get_or_append_left xs (n ∷ []) 0 k (omega (arith, at)) in
        let end : get_or (xs ++ n ∷ []) (k + 1) 0 ≡ n = subst (λ i. get_or (xs ++ n ∷ []) i 0 ≡ n) at (get_or-append_seam xs n [] 0) in
        let old = below (get_or xs k 0) (Contains-get_or xs k 0 (omega (arith, at))) in
        omega (arith, first, end, old)

is_error : (act : Act) → (act ≢ Error → ⊥) → act ≡ Error
is_error (Shift p) never = absurd (never (λ e. cc))
is_error (Reduce r) never = absurd (never (λ e. cc))
is_error Accept never = absurd (never (λ e. cc))
is_error Error never = refl

module _ (t : Tables) (q bound : ℕ) (tokens : List ℕ) (old : AreExpectedBelow t q bound tokens) where
  pub expected_more : act_in t q bound ≢ Error → AreExpectedBelow t q (bound + 1) (tokens ++ bound ∷ [])
  expected_more acts = record {
    rising = rising_push tokens bound old.rising old.below;
    has = λ a less is. ⊎_elim (λ below. Contains-append_left tokens (bound ∷ []) a (old.has a below is)) (λ past. (let at : bound ≡ a = omega arith in subst (λ b. Contains (tokens ++ bound ∷ []) b) at (Contains-push tokens bound))) (cases_lt a bound);
    below = λ a has. ⊎_elim (λ here. (let less = old.below a here in omega (arith, less))) (λ at. omega (arith, at)) (Contains-push_cases tokens bound a has);
    expected = λ a has. ⊎_elim (λ here. old.expected a here) (λ at. subst (λ b. act_in t q b ≢ Error) at acts) (Contains-push_cases tokens bound a has);
  }

  pub expected_same : (act_in t q bound ≢ Error → ⊥) → AreExpectedBelow t q (bound + 1) tokens
  expected_same none = let errs : act_in t q bound ≡ Error = is_error (act_in t q bound) none in record {
    rising = old.rising;
    has = λ a less is. ⊎_elim (λ below. old.has a below is) (λ past. (let at : bound ≡ a = omega arith in absurd (subst (λ b. act_in t q b ≢ Error) (sym at) is errs))) (cases_lt a bound);
    below = λ a has. (let less = old.below a has in omega (arith, less));
    expected = old.expected;
  }
