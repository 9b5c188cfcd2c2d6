-- The laws on the canonical collection, as they are stated.
use Rattle.std.proofs.Common.{◌≡◌, ℕ, zero, suc, ◌<◌, ◌↔◌, Bool, true, false, IsTrue, List, [], ◌∷◌, ◌++◌, length, slice_get, get_or, Option, Some, None, refl, sym, ap, ◌∙◌, subst, inl, inr, append_assoc, append-nil, arith}
use Rattle.std.proofs.lemmas.Option.{slice_get_within, slice_get-get_or}
use Rattle.grammar_data.specs.declared.rule.Sym.{Sym}
use Rattle.grammar_data.specs.Grammar.{Grammar}
use Rattle.grammar_theory.specs.Rules.{IsInRange}
use Rattle.item_theory.specs.Items.{Item, IsValid, IsViable, HaveSameItems}
use Rattle.item_theory.specs.LeadingWords.{IsWordBefore, HasState, AreStates}
use Rattle.item_theory.specs.Search.{walk}
use Rattle.item_theory.specs.Collections.{IsStateOf, IsCollection, HasMoreStates, CollectionOnceLaw, CollectionWalkLaw, CollectionViableLaw, CollectionStopLaw, CollectionItemsLaw, MoreStatesLaw}
use Rattle.item_theory.proofs.SearchLemmas.{empty_leading}
use Rattle.item_theory.proofs.StateLemmas.{same_items_refl, same_items_sym, same_items_trans, same_viable, same_step, viable_prefix, leading_once, place_once, leading_state, states_once, state_count}

-- ---- the first word

nothing_before_empty : (xs : List Sym) → IsWordBefore xs [] → ⊥
nothing_before_empty xs (inl less) = omega arith
nothing_before_empty [] (inr h) = h.1
nothing_before_empty (x ∷ xs) (inr h) = h.1

first_by : (g : Grammar) (words : List (List Sym)) → AreStates g words → (q : ℕ) → slice_get words q ≡ Some [] → slice_get words 0 ≡ Some []
first_by g words states zero at = at
first_by g words states (suc q) at =
    let inside = slice_get_within words (suc q) [] at in
    absurd (nothing_before_empty (get_or words 0 []) (states.are_leading.rising 0 (suc q) (get_or words 0 []) [] (omega arith) (slice_get-get_or words 0 [] (omega arith)) at))

pub first_word : (g : Grammar) (words : List (List Sym)) → AreStates g words → slice_get words 0 ≡ Some []
first_word g words states = let state = leading_state g words states [] (empty_leading g) in first_by g words states state.0 state.1

-- ---- walks

module _ (g : Grammar) (range : IsInRange g) (states : ℕ) (has : ℕ → Item → Bool) (step : ℕ → Sym → Option ℕ) (collection : IsCollection g states has step) where
  abbrev IsAt : ℕ → List Sym → Type 0
  IsAt q xs = IsStateOf g collection.words q xs

  at_first : IsAt 0 []
  at_first = ([], first_word g collection.words collection.are_states, same_items_refl g [])

  state_along : (q : ℕ) (xs ys : List Sym) → HaveSameItems g xs ys → IsAt q xs → IsAt q ys
  state_along q xs ys same (zs, at, items) = (zs, at, same_items_trans g zs xs ys items same)

  at_step : (q p : ℕ) (xs : List Sym) (x : Sym) → IsAt q xs → step q x ≡ Some p → IsAt p (xs ++ x ∷ [])
  at_step q p xs x (zs, at, items) e = state_along p (zs ++ x ∷ []) (xs ++ x ∷ []) (same_step g range zs xs x items) ((collection.steps q p zs x at).0 e)

  some_state : {q p : ℕ} → ◌≡◌ {A = Option ℕ} (Some q) (Some p) → q ≡ p
  some_state e = cc

  walk_on : (xs : List Sym) (x : Sym) (before : List Sym) (p : ℕ) (o : Option ℕ) → ((r : ℕ) → o ≡ Some r → walk step (Some r) xs ≡ Some p → IsAt p ((before ++ x ∷ []) ++ xs)) → walk step o xs ≡ Some p → IsAt p (before ++ x ∷ xs)
  walk_on xs x before p None go e = absurd (cc)
  walk_on xs x before p (Some r) go e = subst (λ l. IsAt p l) (append_assoc before (x ∷ []) xs) (go r refl e)

  walk_at : (xs before : List Sym) (q p : ℕ) → IsAt q before → walk step (Some q) xs ≡ Some p → IsAt p (before ++ xs)
  walk_at [] before q p here e = subst (λ l. IsAt p l) (sym (append-nil before)) (subst (λ r. IsAt r before) (some_state e) here)
  walk_at (x ∷ xs) before q p here e = walk_on xs x before p (step q x) (λ r is w. walk_at xs (before ++ x ∷ []) r p (at_step q r before x here is) w) e

  one_state : (q p : ℕ) (xs : List Sym) → IsAt q xs → IsAt p xs → q ≡ p
  one_state q p xs (us, at, items) (vs, too, others) =
      let e = leading_once g us vs (collection.are_states.are_leading.leading q us at) (collection.are_states.are_leading.leading p vs too) (same_items_trans g us xs vs items (same_items_sym g vs xs others)) in
      place_once g collection.words collection.are_states.are_leading q p vs (at ∙ ap Some e) too

  -- no step where there is no viable prefix
  stop_not_viable : (q : ℕ) (xs : List Sym) (x : Sym) → IsAt q xs → step q x ≡ None → ¬ (IsViable g (xs ++ x ∷ []))
  stop_not_viable q xs x (zs, at, items) none viable =
      no_state (collection.are_states.every (zs ++ x ∷ []) (same_viable g (xs ++ x ∷ []) (zs ++ x ∷ []) (same_items_sym g (zs ++ x ∷ []) (xs ++ x ∷ []) (same_step g range zs xs x items)) viable))
    where
      no_state : HasState g collection.words (zs ++ x ∷ []) → ⊥
      no_state state = none_some (sym none ∙ (collection.steps q state.0 zs x at).1 (state.1, state.2, state.3))
        where
          none_some : {p : ℕ} → ◌≡◌ {A = Option ℕ} None (Some p) → ⊥
          none_some e = cc

  stop_on : (xs : List Sym) (x : Sym) (before : List Sym) (o : Option ℕ) → (o ≡ None → ¬ (IsViable g (before ++ x ∷ []))) → ((r : ℕ) → o ≡ Some r → walk step (Some r) xs ≡ None → ¬ (IsViable g ((before ++ x ∷ []) ++ xs))) → walk step o xs ≡ None → ¬ (IsViable g (before ++ x ∷ xs))
  stop_on xs x before None stop go e viable = stop refl (viable_prefix g range xs (before ++ x ∷ []) (subst (λ l. IsViable g l) (sym (append_assoc before (x ∷ []) xs)) viable))
  stop_on xs x before (Some r) stop go e viable = go r refl e (subst (λ l. IsViable g l) (sym (append_assoc before (x ∷ []) xs)) viable)

  walk_stops : (xs before : List Sym) (q : ℕ) → IsAt q before → walk step (Some q) xs ≡ None → ¬ (IsViable g (before ++ xs))
  walk_stops [] before q here e viable = absurd (cc)
  walk_stops (x ∷ xs) before q here e viable =
      stop_on xs x before (step q x) (stop_not_viable q before x here) (λ r is w. walk_stops xs (before ++ x ∷ []) r (at_step q r before x here is) w) e viable

  viable_at : (q : ℕ) (xs : List Sym) → IsAt q xs → IsViable g xs
  viable_at q xs (zs, at, items) = same_viable g zs xs items (collection.are_states.are_leading.leading q zs at).viable

  at_walk : (q : ℕ) (xs : List Sym) → IsAt q xs → (o : Option ℕ) → walk step (Some 0) xs ≡ o → walk step (Some 0) xs ≡ Some q
  at_walk q xs here None e = absurd (walk_stops xs [] 0 at_first e (viable_at q xs here))
  at_walk q xs here (Some p) e = e ∙ ap Some (one_state p q xs (walk_at xs [] 0 p at_first e) here)

  stop_walk : (xs : List Sym) → ¬ (IsViable g xs) → (o : Option ℕ) → walk step (Some 0) xs ≡ o → walk step (Some 0) xs ≡ None
  stop_walk xs not_viable None e = e
  stop_walk xs not_viable (Some p) e = absurd (not_viable (viable_at p xs (walk_at xs [] 0 p at_first e)))

  items_at : (q : ℕ) (xs : List Sym) → IsAt q xs → (q < states) × ((i : Item) → IsTrue (has q i) ↔ IsValid g xs i)
  items_at q xs (zs, at, items) =
      let inside = slice_get_within collection.words q zs at in
      let e = collection.count in
      (omega arith, λ i. (λ t. (items i).0 ((collection.items q zs at i).0 t), λ v. (collection.items q zs at i).1 ((items i).1 v)))

  viable_walk : (xs : List Sym) → IsViable g xs → (q : ℕ) × (q < states) × (walk step (Some 0) xs ≡ Some q)
  viable_walk xs viable =
      let state = collection.are_states.every xs viable in
      let here : IsAt state.0 xs = (state.1, state.2, state.3) in
      (state.0, (items_at state.0 xs here).0, at_walk state.0 xs here (walk step (Some 0) xs) refl)

pub collection_walk_law : CollectionWalkLaw
collection_walk_law g range states has step collection xs q = (
  λ e. walk_at g range states has step collection xs [] 0 q (at_first g range states has step collection) e,
  λ here. at_walk g range states has step collection q xs here (walk step (Some 0) xs) refl,
)

pub collection_viable_law : CollectionViableLaw
collection_viable_law g range states has step collection xs = (
  λ viable. viable_walk g range states has step collection xs viable,
  λ (q, inside, e). viable_at g range states has step collection q xs (walk_at g range states has step collection xs [] 0 q (at_first g range states has step collection) e),
)

pub collection_stop_law : CollectionStopLaw
collection_stop_law g range states has step collection xs = (
  λ e. walk_stops g range states has step collection xs [] 0 (at_first g range states has step collection) e,
  λ no. stop_walk g range states has step collection xs no (walk step (Some 0) xs) refl,
)

pub collection_items_law : CollectionItemsLaw
collection_items_law g range states has step collection xs q e =
    items_at g range states has step collection q xs (walk_at g range states has step collection xs [] 0 q (at_first g range states has step collection) e)

-- ---- one collection

same_test : (a b : Bool) → (IsTrue a → IsTrue b) → (IsTrue b → IsTrue a) → a ≡ b
same_test true b f h = sym (f refl)
same_test false true f h = h refl
same_test false false f h = refl

same_option : (a b : Option ℕ) → ((p : ℕ) → a ≡ Some p → b ≡ Some p) → ((p : ℕ) → b ≡ Some p → a ≡ Some p) → a ≡ b
same_option (Some p) b f h = sym (f p refl)
same_option None (Some p) f h = h p refl
same_option None None f h = refl

once_parts : (g : Grammar) (states others : ℕ) (has other_has : ℕ → Item → Bool) (step other_step : ℕ → Sym → Option ℕ) (first : IsCollection g states has step) (second : IsCollection g others other_has other_step) → first.words ≡ second.words → (q : ℕ) (xs : List Sym) → slice_get first.words q ≡ Some xs → ((i : Item) → has q i ≡ other_has q i) × ((x : Sym) → step q x ≡ other_step q x)
once_parts g states others has other_has step other_step first second e q xs at = (
  λ i. same_test (has q i) (other_has q i) (λ t. (second.items q xs too i).1 ((first.items q xs at i).0 t)) (λ t. (first.items q xs at i).1 ((second.items q xs too i).0 t)),
  λ x. same_option (step q x) (other_step q x)
      (λ p is. (second.steps q p xs x too).1 (subst (λ l. IsStateOf g l p (xs ++ x ∷ [])) e ((first.steps q p xs x at).0 is)))
      (λ p is. (first.steps q p xs x at).1 (subst (λ l. IsStateOf g l p (xs ++ x ∷ [])) (sym e) ((second.steps q p xs x too).0 is))),
)
  where
    too : slice_get second.words q ≡ Some xs
    too = subst (λ l. slice_get l q ≡ Some xs) e at

pub collection_once_law : CollectionOnceLaw
collection_once_law g states others has other_has step other_step first second =
    let e = states_once g first.words second.words first.are_states second.are_states in (
      sym first.count ∙ ap length e ∙ second.count,
      λ q inside. once_parts g states others has other_has step other_step first second e q (get_or first.words q []) (slice_get-get_or first.words q [] (let n = first.count in omega arith)),
    )

more_states : (g : Grammar) (states limit : ℕ) (has : ℕ → Item → Bool) (step : ℕ → Sym → Option ℕ) → IsCollection g states has step → HasMoreStates g limit → limit < states
more_states g states limit has step collection (words, are, more) =
    let le = state_count g collection.words collection.are_states words are in
    let n = collection.count in
    omega arith

pub more_states_law : MoreStatesLaw
more_states_law g states limit has step collection = (
  λ more. more_states g states limit has step collection more,
  λ less. (collection.words, collection.are_states.are_leading, let n = collection.count in omega arith),
)
