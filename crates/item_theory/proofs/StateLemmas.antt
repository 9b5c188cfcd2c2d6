-- Steps of viable prefixes, leading words, and the order of the states.
use Rattle.std.proofs.Common.{◌≡◌, ℕ, zero, suc, ◌<◌, ◌≤◌, List, [], ◌∷◌, ◌++◌, length, slice_get, get_or, Some, Option, refl, sym, ap, ◌∙◌, subst, inl, inr, ◌⊎◌, ⊎_elim, append_assoc, append-nil, arith, le_antisymm}
use Rattle.std.proofs.lemmas.Bool.{cases_lt}
use Rattle.std.proofs.lemmas.List.{same_lists}
use Rattle.std.proofs.lemmas.Option.{slice_get_within, slice_get-get_or, get_or_from_slice_get}
use Rattle.grammar_data.specs.declared.rule.Sym.{Sym}
use Rattle.grammar_data.specs.Grammar.{Grammar}
use Rattle.grammar_theory.specs.Rules.{IsInRange}
use Rattle.item_theory.specs.Items.{Item, IsValid, IsViable, HaveSameItems, IsConflict, HasConflict}
use Rattle.item_theory.specs.Chains.{Moves, over, Closure, kept, opened, IsMoved}
use Rattle.item_theory.specs.LeadingWords.{IsWordBefore, IsLeading, HasState, AreLeading, AreStates}
use Rattle.item_theory.proofs.ChainLemmas.{chain_valid}
use Rattle.item_theory.proofs.LeadLemmas.{valid_chain}
use Rattle.item_theory.proofs.ClosureLemmas.{closure_weaker, moved_weaker, valid_in_moved, moved_valid}
use Rattle.item_theory.proofs.OrderLemmas.{word_irreflexive, word_transitive}

-- ---- the same items

pub same_items_refl : (g : Grammar) (xs : List Sym) → HaveSameItems g xs xs
same_items_refl g xs i = (λ v. v, λ v. v)

pub same_items_sym : (g : Grammar) (xs ys : List Sym) → HaveSameItems g xs ys → HaveSameItems g ys xs
same_items_sym g xs ys same i = ((same i).1, (same i).0)

pub same_items_trans : (g : Grammar) (xs ys zs : List Sym) → HaveSameItems g xs ys → HaveSameItems g ys zs → HaveSameItems g xs zs
same_items_trans g xs ys zs first second i = (λ v. (second i).0 ((first i).0 v), λ v. (first i).1 ((second i).1 v))

pub same_viable : (g : Grammar) (xs ys : List Sym) → HaveSameItems g xs ys → IsViable g xs → IsViable g ys
same_viable g xs ys same (i, v) = (i, (same i).0 v)

-- ---- one more symbol

closure_base : {g : Grammar} {given : Item → Type 0} {i : Item} → Closure g given i → (j : Item) × given j
closure_base (kept {i = i} h) = (i, h)
closure_base (opened c o) = closure_base c

step_base : (g : Grammar) (xs : List Sym) (x : Sym) → ((j : Item) × IsMoved g (IsValid g xs) x j) → (i : Item) × (j : Item) × IsValid g xs i × Moves g x i j
step_base g xs x (j, moved) = (moved.0, j, moved.1, moved.2)

pub step_of_viable : (g : Grammar) → IsInRange g → (xs : List Sym) (x : Sym) → IsViable g (xs ++ x ∷ []) → (i : Item) × (j : Item) × IsValid g xs i × Moves g x i j
step_of_viable g range xs x (i, v) = step_base g xs x (closure_base (valid_in_moved g range v))

pub viable_of_step : (g : Grammar) → IsInRange g → (xs : List Sym) (x : Sym) (i j : Item) → IsValid g xs i → Moves g x i j → IsViable g (xs ++ x ∷ [])
viable_of_step g range xs x i j v move = (j, chain_valid g (over (valid_chain g range v) move refl))

pub viable_before : (g : Grammar) → IsInRange g → (xs : List Sym) (x : Sym) → IsViable g (xs ++ x ∷ []) → IsViable g xs
viable_before g range xs x viable = let step = step_of_viable g range xs x viable in (step.0, step.2)

pub viable_prefix : (g : Grammar) → IsInRange g → (ys xs : List Sym) → IsViable g (xs ++ ys) → IsViable g xs
viable_prefix g range [] xs viable = subst (λ l. IsViable g l) (append-nil xs) viable
viable_prefix g range (y ∷ ys) xs viable =
    viable_before g range xs y (viable_prefix g range ys (xs ++ y ∷ []) (subst (λ l. IsViable g l) (sym (append_assoc xs (y ∷ []) ys)) viable))

same_step_one : (g : Grammar) → IsInRange g → (xs ys : List Sym) (x : Sym) → HaveSameItems g xs ys → (i : Item) → IsValid g (xs ++ x ∷ []) i → IsValid g (ys ++ x ∷ []) i
same_step_one g range xs ys x same i v = moved_valid g range (closure_weaker (moved_weaker (λ j u. (same j).0 u)) (valid_in_moved g range v))

pub same_step : (g : Grammar) → IsInRange g → (xs ys : List Sym) (x : Sym) → HaveSameItems g xs ys → HaveSameItems g (xs ++ x ∷ []) (ys ++ x ∷ [])
same_step g range xs ys x same i = (λ v. same_step_one g range xs ys x same i v, λ v. same_step_one g range ys xs x (same_items_sym g xs ys same) i v)

-- ---- leading words

either_first : (xs ys : List Sym) → (xs ≡ ys) ⊎ IsWordBefore xs ys → (ys ≡ xs) ⊎ IsWordBefore ys xs → xs ≡ ys
either_first xs ys (inl e) second = e
either_first xs ys (inr h) (inl e) = sym e
either_first xs ys (inr h) (inr k) = absurd (word_irreflexive xs (word_transitive xs ys xs h k))

pub leading_once : (g : Grammar) (xs ys : List Sym) → IsLeading g xs → IsLeading g ys → HaveSameItems g xs ys → xs ≡ ys
leading_once g xs ys first second same = either_first xs ys (first.first ys same) (second.first xs (same_items_sym g xs ys same))

pub has_state_along : (g : Grammar) (words : List (List Sym)) (xs ys : List Sym) → HaveSameItems g xs ys → HasState g words xs → HasState g words ys
has_state_along g words xs ys same (q, zs, at, items) = (q, zs, at, same_items_trans g zs xs ys items same)

-- words of an ordered list are at one place
pub place_once : (g : Grammar) (words : List (List Sym)) → AreLeading g words → (i j : ℕ) (xs : List Sym) → slice_get words i ≡ Some xs → slice_get words j ≡ Some xs → i ≡ j
place_once g words are i j xs at too = le_antisymm (not_less j i too at) (not_less i j at too)
  where
    not_less : (k m : ℕ) → slice_get words k ≡ Some xs → slice_get words m ≡ Some xs → m ≤ k
    not_less k m at_k at_m = ⊎_elim (λ less. absurd (word_irreflexive xs (are.rising k m xs xs less at_k at_m))) (λ le. le) (cases_lt k m)

module _ (g : Grammar) (words : List (List Sym)) (states : AreStates g words) where
  own_state : (xs : List Sym) → IsLeading g xs → HasState g words xs → (q : ℕ) × (slice_get words q ≡ Some xs)
  own_state xs leading (q, ys, at, same) =
      let e = leading_once g ys xs (states.are_leading.leading q ys at) leading same in
      (q, at ∙ ap Some e)

  pub leading_state : (xs : List Sym) → IsLeading g xs → (q : ℕ) × (slice_get words q ≡ Some xs)
  leading_state xs leading = own_state xs leading (states.every xs leading.viable)

  module _ (some : List (List Sym)) (are : AreLeading g some) where
    later_place : (i k m : ℕ) (xs ys : List Sym) → IsWordBefore xs ys → slice_get words k ≡ Some xs → i ≤ k → slice_get words m ≡ Some ys → suc i ≤ m
    later_place i k m xs ys before at le too = ⊎_elim (λ less. let l : k < m = less in omega arith) (λ back. absurd (not_back (eq_or_less m k back))) (cases_lt k m)
      where
        eq_or_less : (a b : ℕ) → a ≤ b → (a ≡ b) ⊎ (a < b)
        eq_or_less a b h = grind arith

        not_back : (m ≡ k) ⊎ (m < k) → ⊥
        not_back (inl e) = word_irreflexive xs (subst (λ l. IsWordBefore xs l) (sym (some_list (sym at ∙ ap (slice_get words) (sym e) ∙ too))) before)
          where
            some_list : {us vs : List Sym} → ◌≡◌ {A = Option (List Sym)} (Some us) (Some vs) → us ≡ vs
            some_list h = cc
        not_back (inr less) = word_irreflexive xs (word_transitive xs ys xs before (states.are_leading.rising m k ys xs less too at))

    element : (i : ℕ) (ys : List Sym) → slice_get some (suc i) ≡ Some ys → slice_get some i ≡ Some (get_or some i [])
    element i ys at = let inside = slice_get_within some (suc i) ys at in slice_get-get_or some i [] (omega arith)

    -- each word stands at its place or later among all
    pub place_of : (i : ℕ) (xs : List Sym) → slice_get some i ≡ Some xs → (k : ℕ) × (slice_get words k ≡ Some xs) × (i ≤ k)
    place_of zero xs at = let state = leading_state xs (are.leading 0 xs at) in (state.0, state.1, omega arith)
    place_of (suc i) ys at =
        let before = place_of i (get_or some i []) (element i ys at) in
        let state = leading_state ys (are.leading (suc i) ys at) in
        (state.0, state.1, later_place i before.0 state.0 (get_or some i []) ys (are.rising i (suc i) (get_or some i []) ys (omega arith) (element i ys at) at) before.1 before.2 state.1)

    count_by : (n : ℕ) → length some ≡ n → length some ≤ length words
    count_by zero e = omega arith
    count_by (suc n) e =
        let place = place_of n (get_or some n []) (slice_get-get_or some n [] (omega arith)) in
        let inside = slice_get_within words place.0 (get_or some n []) place.1 in
        let le : n ≤ place.0 = place.2 in
        omega arith

    pub state_count : length some ≤ length words
    state_count = count_by (length some) refl

pub states_once : (g : Grammar) (words others : List (List Sym)) → AreStates g words → AreStates g others → words ≡ others
states_once g words others first second = same_lists words others (le_antisymm (state_count g others second words first.are_leading) (state_count g words first others second.are_leading)) same
  where
    at_place : (i : ℕ) (xs : List Sym) → slice_get words i ≡ Some xs → slice_get others i ≡ Some xs
    at_place i xs at =
        let there = place_of g others second words first.are_leading i xs at in
        let back = place_of g words first others second.are_leading there.0 xs there.1 in
        let e = place_once g words first.are_leading i back.0 xs at back.1 in
        let le : i ≤ there.0 = there.2 in
        let le_back : there.0 ≤ back.0 = back.2 in
        let same_place : there.0 ≡ i = omega arith in
        subst (λ k. slice_get others k ≡ Some xs) same_place there.1

    same : (k : ℕ) (d : List Sym) → k < length words → get_or words k d ≡ get_or others k d
    same k d inside = sym (get_or_from_slice_get others k (get_or words k d) d (at_place k (get_or words k d) (slice_get-get_or words k d inside)))

-- ---- conflicts

conflict_along : (g : Grammar) (xs ys : List Sym) (a : ℕ) (first second : Item) → HaveSameItems g ys xs → IsConflict g xs a first second → IsConflict g ys a first second
conflict_along g xs ys a first second same c = record {
  first_valid = (same first).1 c.first_valid;
  second_valid = (same second).1 c.second_valid;
  first_deed = c.first_deed;
  second_deed = c.second_deed;
  first_does = c.first_does;
  second_does = c.second_does;
  differ = c.differ;
}

conflict_at : (g : Grammar) (words : List (List Sym)) (xs : List Sym) (a : ℕ) (first second : Item) → IsConflict g xs a first second → HasState g words xs → (q : ℕ) × (ys : List Sym) × (slice_get words q ≡ Some ys) × (b : ℕ) × (one : Item) × (two : Item) × IsConflict g ys b one two
conflict_at g words xs a first second c (q, ys, at, same) = (q, ys, at, a, first, second, conflict_along g xs ys a first second same c)

pub conflict_state : (g : Grammar) (words : List (List Sym)) → AreStates g words → HasConflict g → (q : ℕ) × (xs : List Sym) × (slice_get words q ≡ Some xs) × (a : ℕ) × (first : Item) × (second : Item) × IsConflict g xs a first second
conflict_state g words states (xs, a, first, second, c) = conflict_at g words xs a first second c (states.every xs (first, c.first_valid))
