-- Canonical tables lead from state to state as the collection does.
use Rattle.std.proofs.Common.{◌≡◌, ℕ, ◌+◌, ◌*◌, ◌<◌, ◌≤◌, ◌↔◌, ◌⊎◌, inl, inr, ⊎_elim, Bool, true, false, nat_lt, if◌then◌else◌, IsTrue, List, [], ◌∷◌, ◌++◌, get_or, Option, Some, None, refl, sym, ap, subst, ◌∙◌, arith}
use Rattle.std.proofs.lemmas.Bool.{cases_lt, lt-ltb, le-ltb}
use Rattle.grammar_data.specs.declared.rule.Sym.{Sym}
use Rattle.grammar_data.specs.declared.rule.Sym.TheVariants.{Token, Name}
use Rattle.grammar_data.specs.Grammar.{Grammar}
use Rattle.grammar_theory.specs.Rules.{IsInRange, NamesBelow, end_mark}
use Rattle.item_theory.specs.Items.{Item, Deed, shifts, IsValid, IsViable, Shift as to_shift}
use Rattle.item_theory.specs.Chains.{Moves, moves}
use Rattle.item_theory.specs.Search.{walk}
use Rattle.item_theory.specs.Collections.{IsStateOf, IsCollection}
use Rattle.item_theory.proofs.ItemLaws.{prefix_range_law}
use Rattle.item_theory.proofs.StateLemmas.{step_of_viable}
use Rattle.item_theory.proofs.CollectionLaws.{first_word, collection_items_law, collection_viable_law, collection_stop_law}
use Rattle.table_data.specs.declared.act.Act.{Act}
use Rattle.table_data.specs.declared.act.Act.TheVariants.{Shift, Reduce, Accept, Error}
use Rattle.table_data.specs.Tables.{Tables, act_in, goto_in, shift_of, step_by}
use Rattle.table_theory.specs.Deeds.{HasDeed}
use Rattle.table_theory.specs.Clashes.{ItemsOf}
use Rattle.table_theory.specs.Canonical.{deed_of, IsCanonicalAct, AreCanonical, CanonicalStepLaw, CanonicalWalkLaw, CanonicalDeedLaw, CanonicalViableLaw, CanonicalStopLaw}
use Rattle.table_theory.proofs.ClashLemmas.{word_of, state_of}
use Rattle.table_theory.proofs.CanonicalLemmas.{token_below, does_within}

name_below : (bound n : ℕ) (before : List Sym) → NamesBelow bound (before ++ Name n ∷ []) → n < bound
name_below bound n [] below = below.0
name_below bound n (Token a ∷ before) below = name_below bound n before below
name_below bound n (Name m ∷ before) below = name_below bound n before below.1

-- what is never something is nothing
nothing : (o : Option ℕ) → ((p : ℕ) → o ≡ Some p → ⊥) → None ≡ o
nothing None never = refl
nothing (Some p) never = absurd (never p refl)

-- an action shifts where there is a step, if then some item shifts
shift_by : (g : Grammar) (has : ℕ → Item → Bool) (step : ℕ → Sym → Option ℕ) (q a : ℕ) (act : Act) → IsCanonicalAct g has step q a act
    → (o : Option ℕ) → step q (Token a) ≡ o → ((p : ℕ) → o ≡ Some p → HasDeed g (ItemsOf has q) a to_shift) → shift_of act ≡ o
shift_by g has step q a (Shift p) canonical o is deed = sym (canonical.target p refl) ∙ is
shift_by g has step q a (Reduce r) canonical None is deed = refl
shift_by g has step q a (Reduce r) canonical (Some p) is deed = let e = (canonical.deed to_shift).1 (deed p refl) in absurd (cc)
shift_by g has step q a Accept canonical None is deed = refl
shift_by g has step q a Accept canonical (Some p) is deed = let e = (canonical.deed to_shift).1 (deed p refl) in absurd (cc)
shift_by g has step q a Error canonical None is deed = refl
shift_by g has step q a Error canonical (Some p) is deed = let e = (canonical.deed to_shift).1 (deed p refl) in absurd (cc)

module _ (g : Grammar) (range : IsInRange g) (states : ℕ) (has : ℕ → Item → Bool) (step : ℕ → Sym → Option ℕ) (collection : IsCollection g states has step) where
  viable_along : (q p : ℕ) (x : Sym) → q < states → step q x ≡ Some p → IsViable g (get_or collection.words q [] ++ x ∷ [])
  viable_along q p x less is = viable ((collection.steps q p (get_or collection.words q []) x (word_of g states has step collection q less)).0 is)
    where
      viable : IsStateOf g collection.words p (get_or collection.words q [] ++ x ∷ []) → IsViable g (get_or collection.words q [] ++ x ∷ [])
      viable (ys, at, same) = let some = (collection.are_states.are_leading.leading p ys at).viable in (some.0, (same some.0).0 some.1)

  within : (q p : ℕ) (x : Sym) → q < states → step q x ≡ Some p → p < states
  within q p x less is = below ((collection.steps q p (get_or collection.words q []) x (word_of g states has step collection q less)).0 is)
    where
      below : IsStateOf g collection.words p (get_or collection.words q [] ++ x ∷ []) → p < states
      below (ys, at, same) = state_of g states has step collection p ys at

  shifts_along : (q p a : ℕ) → q < states → step q (Token a) ≡ Some p → HasDeed g (ItemsOf has q) a to_shift
  shifts_along q p a less is = shown (step_of_viable g range (get_or collection.words q []) (Token a) (viable_along q p (Token a) less is))
    where
      by_move : (i j : Item) → IsTrue (has q i) → Moves g (Token a) i j → HasDeed g (ItemsOf has q) a to_shift
      by_move i j is_item (moves n before after dotted e) = (i, is_item, shifts dotted)

      shown : ((i : Item) × (j : Item) × IsValid g (get_or collection.words q []) i × Moves g (Token a) i j) → HasDeed g (ItemsOf has q) a to_shift
      shown (i, j, known, move) = by_move i j ((collection.items q (get_or collection.words q []) (word_of g states has step collection q less) i).1 known) move

  token_within : (q p a : ℕ) → q < states → step q (Token a) ≡ Some p → a < g.tokens
  token_within q p a less is = token_below g.tokens a (get_or collection.words q []) [] (prefix_range_law g range (get_or collection.words q [] ++ Token a ∷ []) (viable_along q p (Token a) less is)).1

  name_within : (q p n : ℕ) → q < states → step q (Name n) ≡ Some p → n < g.names
  name_within q p n less is = name_below g.names n (get_or collection.words q []) (prefix_range_law g range (get_or collection.words q [] ++ Name n ∷ []) (viable_along q p (Name n) less is)).0

  module _ (t : Tables) (canonical : AreCanonical g states has step t) where
    step_same : (q : ℕ) (x : Sym) → q < states → step_by t q x ≡ step q x
    step_same q (Token a) less = cases (cases_lt g.tokens a)
      where
        cases : (g.tokens < a) ⊎ (a ≤ g.tokens) → shift_of (act_in t q a) ≡ step q (Token a)
        cases (inl past) =
            let beyond : nat_lt t.tokens a ≡ true = lt-ltb t.tokens a (omega (arith, canonical.tokens)) in
            ap (λ (c : Bool). shift_of (if c then Error else get_or t.acts (q * (t.tokens + 1) + a) Error)) beyond
            ∙ nothing (step q (Token a)) (λ p is. let small = token_within q p a less is in omega arith)
        cases (inr here) = shift_by g has step q a (act_in t q a) (canonical.acts q a less here) (step q (Token a)) refl (λ p is. shifts_along q p a less is)
    step_same q (Name n) less = cases (cases_lt n g.names)
      where
        cases : (n < g.names) ⊎ (g.names ≤ n) → goto_in t q n ≡ step q (Name n)
        cases (inl here) = canonical.gotos q n less here
        cases (inr past) =
            let beyond : nat_lt n t.names ≡ false = le-ltb n t.names (omega (arith, canonical.names)) in
            ap (λ (c : Bool). if c then get_or t.gotos (q * t.names + n) None else None) beyond
            ∙ nothing (step q (Name n)) (λ p is. let small = name_within q p n less is in omega arith)

    walk_from : (xs : List Sym) (o : Option ℕ) → ((p : ℕ) → o ≡ Some p → p < states) → walk (step_by t) o xs ≡ walk step o xs
    walk_from xs None inside = refl
    walk_from [] (Some q) inside = refl
    walk_from (x ∷ xs) (Some q) inside =
        ap (λ o. walk (step_by t) o xs) (step_same q x (inside q refl)) ∙ walk_from xs (step q x) (λ p is. within q p x (inside q refl) is)

    walk_same : (xs : List Sym) → walk (step_by t) (Some 0) xs ≡ walk step (Some 0) xs
    walk_same xs = walk_from xs (Some 0) (λ p is. subst (λ k. k < states) (at_zero p is) (state_of g states has step collection 0 [] (first_word g collection.words collection.are_states)))
      where
        at_zero : (p : ℕ) → ◌≡◌ {A = Option ℕ} (Some 0) (Some p) → 0 ≡ p
        at_zero p is = cc

    deed_within : (xs : List Sym) (q a : ℕ) → walk (step_by t) (Some 0) xs ≡ Some q → a ≤ end_mark g → (deed : Deed) → (deed_of (act_in t q a) ≡ Some deed) ↔ HasDeed g (IsValid g xs) a deed
    deed_within xs q a is small deed =
        let state = collection_items_law g range states has step collection xs q (sym (walk_same xs) ∙ is) in
        let act : IsCanonicalAct g has step q a (act_in t q a) = canonical.acts q a state.0 small in (
          λ does. let h = (act.deed deed).0 does in (h.0, (state.1 h.0).0 h.1, h.2),
          λ h. (act.deed deed).1 (h.0, (state.1 h.0).1 h.1, h.2),
        )

    -- beyond the end mark the action is an error, and no valid item does anything
    deed_beyond : (xs : List Sym) (q a : ℕ) → g.tokens < a → (deed : Deed) → (deed_of (act_in t q a) ≡ Some deed) ↔ HasDeed g (IsValid g xs) a deed
    deed_beyond xs q a past deed = (
      λ does. absurd (none_some (sym (ap (λ (c : Bool). deed_of (if c then Error else get_or t.acts (q * (t.tokens + 1) + a) Error)) beyond) ∙ does)),
      λ h. let small = does_within g range xs h.0 a deed h.1 h.2 in absurd (omega arith),
    )
      where
        beyond : nat_lt t.tokens a ≡ true
        beyond = lt-ltb t.tokens a (omega (arith, canonical.tokens))

        none_some : ◌≡◌ {A = Option Deed} None (Some deed) → ⊥
        none_some e = cc

    deed_same : (xs : List Sym) (q a : ℕ) → walk (step_by t) (Some 0) xs ≡ Some q → (deed : Deed) → (deed_of (act_in t q a) ≡ Some deed) ↔ HasDeed g (IsValid g xs) a deed
    deed_same xs q a is deed = ⊎_elim (λ past. deed_beyond xs q a past deed) (λ small. deed_within xs q a is small deed) (cases_lt g.tokens a)

    viable_same : (xs : List Sym) → IsViable g xs ↔ ((q : ℕ) × (q < states) × (walk (step_by t) (Some 0) xs ≡ Some q))
    viable_same xs =
        let law = collection_viable_law g range states has step collection xs in (
          λ viable. let led = law.0 viable in (led.0, led.1, walk_same xs ∙ led.2),
          λ (q, inside, is). law.1 (q, inside, sym (walk_same xs) ∙ is),
        )

    stop_same : (xs : List Sym) → (walk (step_by t) (Some 0) xs ≡ None) ↔ (¬ (IsViable g xs))
    stop_same xs =
        let law = collection_stop_law g range states has step collection xs in
        (λ stops. law.0 (sym (walk_same xs) ∙ stops), λ never. walk_same xs ∙ law.1 never)

pub canonical_step : CanonicalStepLaw
canonical_step g range states has step t collection canonical q x less = step_same g range states has step collection t canonical q x less

pub canonical_deed : CanonicalDeedLaw
canonical_deed g range states has step t collection canonical xs q a is deed = deed_same g range states has step collection t canonical xs q a is deed

pub canonical_walk : CanonicalWalkLaw
canonical_walk g range states has step t collection canonical xs = walk_same g range states has step collection t canonical xs

pub canonical_viable : CanonicalViableLaw
canonical_viable g range states has step t collection canonical xs = viable_same g range states has step collection t canonical xs

pub canonical_stop : CanonicalStopLaw
canonical_stop g range states has step t collection canonical xs = stop_same g range states has step collection t canonical xs
