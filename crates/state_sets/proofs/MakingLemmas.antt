-- Maps that are made state after state, and states that no tables have.
use Rattle.std.proofs.Common.{◌≡◌, ◌≢◌, ℕ, ◌+◌, ◌*◌, ◌<◌, ◌≤◌, ◌⊎◌, inl, inr, true, false, cond, eqb, ltb, List, [], ◌∷◌, ◌++◌, get_or, Option, Some, None, refl, sym, ap, ◌∙◌, subst, arith}
use Rattle.std.proofs.lemmas.List.{get_or_past}
use Rattle.std.specs.Prelude.{All, is_some, option_and_then}
use Rattle.std.proofs.Math.Nat.{mul-le-mul_right}
use Rattle.std.proofs.lemmas.Bool.{cases_eq, cases_lt, cases_Bool, cond-true, cond-false}
use Rattle.std.proofs.lemmas.List.Elements.{All-nil, All-head, All-tail, All-push, All-weaker}
use Rattle.std.proofs.lemmas.List.Quantifiers.{all_pairs_push}
use Rattle.grammar_data.specs.declared.rule.Sym.{Sym}
use Rattle.grammar_data.specs.declared.rule.Sym.TheVariants.{Token, Name}
use Rattle.table_data.specs.declared.act.Act.TheVariants.{Error}
use Rattle.table_data.specs.Tables.{Tables, act_in, goto_in, shift_of, step_by}
use Rattle.lr_machine.specs.IsTables.{IsTables}
use Rattle.map_theory.specs.Maps.{StateMap, target, IsRising, IsMapOf, walk_by}
use Rattle.map_theory.proofs.MapLemmas.{target_at, target_other}
use Rattle.state_sets.specs.Within.{AreWithin}

-- the map is that of the function as far as the states below a number go
pub record IsMadeTo (f : ℕ → Option ℕ) (n : ℕ) (m : StateMap) : Type 0 where
  pub rising : IsRising m
  pub below : All (λ x. x.0 < n) m
  pub targets : (q : ℕ) → q < n → target m q ≡ f q

target_past : (m : StateMap) (n q : ℕ) → All (λ x. x.0 < n) m → n ≤ q → target m q ≡ None
target_past [] n q below past = refl
target_past (pair ∷ m) n q below past =
    let first : pair.0 < n = All-head (λ x. x.0 < n) pair m below in
    target_other pair m q (λ e. absurd (omega arith)) ∙ target_past m n q (All-tail (λ x. x.0 < n) pair m below) past

push_other : (m : StateMap) (pair : ℕ × ℕ) (q : ℕ) → pair.0 ≢ q → target (m ++ pair ∷ []) q ≡ target m q
push_other [] pair q other = target_other pair [] q other
push_other (x ∷ m) pair q other = ap (cond (eqb x.0 q) (Some x.1)) (push_other m pair q other)

push_at : (m : StateMap) (pair : ℕ × ℕ) → All (λ x. x.0 < pair.0) m → target (m ++ pair ∷ []) pair.0 ≡ Some pair.1
push_at [] pair below = target_at pair [] pair.0 refl
push_at (x ∷ m) pair below =
    let first : x.0 < pair.0 = All-head (λ y. y.0 < pair.0) x m below in
    target_other x (m ++ pair ∷ []) pair.0 (λ e. absurd (omega arith)) ∙ push_at m pair (All-tail (λ y. y.0 < pair.0) x m below)

pub made_none : (f : ℕ → Option ℕ) → IsMadeTo f 0 []
made_none f = record {
  rising = λ i j d before within. absurd (omega arith);
  below = All-nil (λ x. x.0 < 0);
  targets = λ q less. absurd (omega arith);
}

pub made_skip : (f : ℕ → Option ℕ) (n : ℕ) (m : StateMap) → f n ≡ None → IsMadeTo f n m → IsMadeTo f (n + 1) m
made_skip f n m none made = record {
  rising = made.rising;
  below = All-weaker (λ x. x.0 < n) (λ x. x.0 < n + 1) (λ x less. omega arith) m made.below;
  targets = λ q less. cases q less (cases_eq q n);
}
  where
    cases : (q : ℕ) → q < n + 1 → (q ≡ n) ⊎ (q ≡ n → ⊥) → target m q ≡ f q
    cases q less (inl same) = target_past m n q made.below (omega arith) ∙ sym (ap f same ∙ none)
    cases q less (inr other) = made.targets q (omega arith)

pub made_put : (f : ℕ → Option ℕ) (n p : ℕ) (m : StateMap) → f n ≡ Some p → IsMadeTo f n m → IsMadeTo f (n + 1) (m ++ (n, p) ∷ [])
made_put f n p m some made = record {
  rising = all_pairs_push (λ x y. x.0 < y.0) m (n, p) made.rising (λ k d within. made.below k d within);
  below = All-push (λ x. x.0 < n + 1) m (n, p) (All-weaker (λ x. x.0 < n) (λ x. x.0 < n + 1) (λ x less. omega arith) m made.below) (omega arith);
  targets = λ q less. cases q less (cases_eq q n);
}
  where
    cases : (q : ℕ) → q < n + 1 → (q ≡ n) ⊎ (q ≡ n → ⊥) → target (m ++ (n, p) ∷ []) q ≡ f q
    cases q less (inl same) = ap (target (m ++ (n, p) ∷ [])) same ∙ push_at m (n, p) made.below ∙ sym (ap f same ∙ some)
    cases q less (inr other) = push_other m (n, p) q (λ e. other (sym e)) ∙ made.targets q (omega arith)

pub made_all : (f : ℕ → Option ℕ) (n : ℕ) (m : StateMap) → ((q : ℕ) → n ≤ q → f q ≡ None) → IsMadeTo f n m → IsMapOf f m
made_all f n m past made = record {
  rising = made.rising;
  targets = λ q. cases q (cases_lt q n);
}
  where
    cases : (q : ℕ) → (q < n) ⊎ (n ≤ q) → target m q ≡ f q
    cases q (inl less) = made.targets q less
    cases q (inr beyond) = target_past m n q made.below beyond ∙ sym (past q beyond)

start_within : (n : ℕ) (m : StateMap) (q p : ℕ) → AreWithin n m → target m q ≡ Some p → q < n
start_within n [] q p within is = absurd (cc is)
start_within n (pair ∷ m) q p within is = cases (cases_eq pair.0 q) (λ later. start_within n m q p (All-tail (λ x. (x.0 < n) × (x.1 < n)) pair m within) later)
  where
    cases : (pair.0 ≡ q) ⊎ (pair.0 ≡ q → ⊥) → (target m q ≡ Some p → q < n) → q < n
    cases (inl same) go = let first = All-head (λ x. (x.0 < n) × (x.1 < n)) pair m within in subst (λ z. z < n) same first.0
    cases (inr other) go = go (sym (target_other pair m q other) ∙ is)

-- ---- no state past the last one has a step

pub step_past : (t : Tables) → IsTables t → (q : ℕ) (x : Sym) → t.states ≤ q → step_by t q x ≡ None
step_past t is q (Token a) past = ap shift_of (error (cases_Bool (ltb t.tokens a)))
  where
    rows : t.states * (t.tokens + 1) ≤ q * (t.tokens + 1)
    rows = mul-le-mul_right (t.tokens + 1) past

    error : (ltb t.tokens a ≡ true) ⊎ (ltb t.tokens a ≡ false) → act_in t q a ≡ Error
    error (inl none) = cond-true (ltb t.tokens a) Error (get_or t.acts (q * (t.tokens + 1) + a) Error) none
    error (inr some) = cond-false (ltb t.tokens a) Error (get_or t.acts (q * (t.tokens + 1) + a) Error) some ∙ get_or_past t.acts (q * (t.tokens + 1) + a) Error (omega (arith, rows, is.acts_size))
step_past t is q (Name n) past = none (cases_Bool (ltb n t.names))
  where
    rows : t.states * t.names ≤ q * t.names
    rows = mul-le-mul_right t.names past

    none : (ltb n t.names ≡ true) ⊎ (ltb n t.names ≡ false) → goto_in t q n ≡ None
    none (inl some) = cond-true (ltb n t.names) (get_or t.gotos (q * t.names + n) None) None some ∙ get_or_past t.gotos (q * t.names + n) None (omega (arith, rows, is.gotos_size))
    none (inr past_names) = cond-false (ltb n t.names) (get_or t.gotos (q * t.names + n) None) None past_names

pub back_past : (t : Tables) → IsTables t → (xs : List Sym) (m : StateMap) (q : ℕ) → AreWithin t.states m → t.states ≤ q → option_and_then (λ p. cond (is_some (target m p)) (Some p) None) (walk_by t q xs) ≡ None
back_past t is [] m q within past = cases (target m q) refl
  where
    cases : (o : Option ℕ) → target m q ≡ o → cond (is_some (target m q)) (Some q) None ≡ None
    cases None none = ap (λ o. cond (is_some o) (Some q) None) none
    cases (Some p) some = let below : q < t.states = start_within t.states m q p within some in absurd (omega arith)
back_past t is (x ∷ xs) m q within past =
    ap (λ o. option_and_then (λ p. cond (is_some (target m p)) (Some p) None) (option_and_then (λ p. walk_by t p xs) o)) (step_past t is q x past)

-- ---- walks step by step

pub walk_on : (t : Tables) (q p : ℕ) (x : Sym) (xs : List Sym) → step_by t q x ≡ Some p → walk_by t q (x ∷ xs) ≡ walk_by t p xs
walk_on t q p x xs step = ap (option_and_then (λ z. walk_by t z xs)) step

pub walk_ends : (t : Tables) (q : ℕ) (x : Sym) (xs : List Sym) → step_by t q x ≡ None → walk_by t q (x ∷ xs) ≡ None
walk_ends t q x xs step = ap (option_and_then (λ z. walk_by t z xs)) step
