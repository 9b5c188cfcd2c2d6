-- The rules of a name among the first rules.
use Rattle.std.proofs.Common.{◌≡◌, ◌≢◌, ℕ, zero, suc, ◌+◌, ◌⊎◌, inl, inr, ⊎_elim, List, [], ◌∷◌, ◌++◌, length, filter, set, cond, refl, sym, ap, ◌∙◌, arith, eq-eqb, ne_eqb}
use Rattle.std.specs.Prelude.{slice_get, Some}
use Rattle.std.specs.Global.{Vec}
use Rattle.std.specs.List.{range_with_len}
use Rattle.std.proofs.lemmas.List.{append-nil, map-id}
use Rattle.std.proofs.lemmas.List.FromFn.{filter_of_map_range_with_len_more}
use Rattle.grammar_data.specs.declared.rule.Sym.{Sym}
use Rattle.grammar_data.specs.Grammar.{Rule}
use Rattle.sample_theory.specs.Choices.{has_left, rules_of}

-- those among the first so many
abbrev pub rules_before : List Rule → ℕ → ℕ → List ℕ
rules_before rules n count = filter (λ r. has_left n (slice_get rules r)) (range_with_len 0 count)

pub rules_are : (rules : List Rule) (n : ℕ) → rules_before rules n (length rules) ≡ rules_of rules n
unfolding rules_of
rules_are rules n = refl

pub one_rule_more : (rules : List Rule) (n count : ℕ) → rules_before rules n (count + 1) ≡ rules_before rules n count ++ cond (has_left n (slice_get rules count)) (count ∷ []) []
one_rule_more rules n count =
    let p = λ (r : ℕ). has_left n (slice_get rules r) in
    ap (filter p) (sym (map-id (range_with_len 0 (count + 1)))) ∙ filter_of_map_range_with_len_more p (λ r. r) 0 count count (omega arith)
    ∙ ap (λ l. filter p l ++ cond (p count) (count ∷ []) []) (map-id (range_with_len 0 count))

pub rule_put : (rules : List Rule) (n r : ℕ) (right : List Sym) → slice_get rules r ≡ Some (n, right) → rules_before rules n (r + 1) ≡ rules_before rules n r ++ r ∷ []
rule_put rules n r right at = one_rule_more rules n r ∙ ap (λ b. rules_before rules n r ++ cond b (r ∷ []) []) (ap (has_left n) at ∙ eq-eqb n n refl)

pub rule_of_other : (rules : List Rule) (n m r : ℕ) (right : List Sym) → slice_get rules r ≡ Some (m, right) → m ≢ n → rules_before rules n (r + 1) ≡ rules_before rules n r
rule_of_other rules n m r right at other = one_rule_more rules n r ∙ ap (λ b. rules_before rules n r ++ cond b (r ∷ []) []) (ap (has_left n) at ∙ ne_eqb m n other) ∙ append-nil (rules_before rules n r)

-- an element of a list where one was set
pub set_cases : {X : Type 0} (xs : List X) (k n : ℕ) (v x : X) → slice_get (set xs k v) n ≡ Some x → ((n ≡ k) × (v ≡ x)) ⊎ ((n ≢ k) × (slice_get xs n ≡ Some x))
set_cases [] k n v x at = absurd (cc)
set_cases (y ∷ xs) zero zero v x at = inl (refl, cc)
set_cases (y ∷ xs) zero (suc n) v x at = inr (λ e. omega (arith, e), at)
set_cases (y ∷ xs) (suc k) zero v x at = inr (λ e. omega (arith, e), at)
set_cases (y ∷ xs) (suc k) (suc n) v x at = ⊎_elim (λ here. inl (ap suc here.0, here.1)) (λ other. inr (λ e. other.0 (omega (arith, e)), other.1)) (set_cases xs k n v x at)

-- the lists when a rule is put behind those of its left side
pub lists_pushed : (rules : List Rule) (lists : List (Vec ℕ)) (r left : ℕ) (right : List Sym) → slice_get rules r ≡ Some (left, right)
    → ((n : ℕ) (list : Vec ℕ) → slice_get lists n ≡ Some list → list.items ≡ rules_before rules n r)
    → (old v : Vec ℕ) → slice_get lists left ≡ Some old → v.items ≡ old.items ++ r ∷ []
    → (n : ℕ) (list : Vec ℕ) → slice_get (set lists left v) n ≡ Some list → list.items ≡ rules_before rules n (r + 1)
lists_pushed rules lists r left right at are old v here pushed n list there = ⊎_elim
    (λ same. sym (ap (λ (l : Vec ℕ). l.items) same.1) ∙ pushed ∙ ap (λ l. l ++ r ∷ []) (are left old here) ∙ sym (rule_put rules left r right at) ∙ ap (λ k. rules_before rules k (r + 1)) (sym same.0))
    (λ other. are n list other.1 ∙ sym (rule_of_other rules n left r right at (λ e. other.0 (sym e))))
    (set_cases lists left n v list there)
