-- Where all rows are those of the words, they are the collection.
use Rattle.std.proofs.Common.{◌≡◌, ℕ, suc, ◌+◌, ◌*◌, ◌<◌, ◌≤◌, ◌↔◌, Bool, if◌then◌else◌, IsTrue, List, [], ◌∷◌, ◌++◌, length, get_or, slice_get, Option, Some, None, sym, ap, subst, ◌∙◌, arith}
use Rattle.std.specs.Option.{option_and_then}
use Rattle.std.proofs.lemmas.Bool.{lt-ltb}
use Rattle.std.proofs.lemmas.Option.{slice_get_within, slice_get-get_or, same_Some, none-some, option_and_then_some}
use Rattle.grammar_data.specs.declared.rule.Sym.{Sym}
use Rattle.grammar_data.specs.declared.rule.Sym.TheVariants.{Token, Name}
use Rattle.grammar_data.specs.Grammar.{Grammar}
use Rattle.grammar_theory.specs.Rules.{IsInRange, NamesBelow, TokensBelow}
use Rattle.item_theory.specs.Items.{Item, IsValid, IsViable}
use Rattle.item_theory.specs.Collections.{IsStateOf, HasMoreStates}
use Rattle.item_theory.proofs.ItemLaws.{prefix_range_law}
use Rattle.item_theory.proofs.StateLemmas.{same_items_sym, same_items_trans, leading_once, place_once}
use Rattle.item_theory.proofs.CollectionLaws.{more_states_law}
use Rattle.collection_data.specs.declared.entry.Entry.{Entry}
use Rattle.collection_data.specs.Entries.{AreEntries}
use Rattle.collection_data.specs.Collection.{CollectionParts, column_of, step_in, has_item, IsCollectionOf}
use Rattle.collection_data.specs.Rows.{symbol_at, IsStepOf, AreAllRowsOf}
use Rattle.collection_data.proofs.RowLemmas.{times_le, symbol_of_column}

module _ (g : Grammar) (range : IsInRange g) (t : CollectionParts) (tokens : t.tokens ≡ g.tokens) (names : t.names ≡ g.names) (done : AreAllRowsOf g t.states t.steps) (are : (q : ℕ) (es : List Entry) → slice_get t.states q ≡ Some es → AreEntries g es) where
  step_in_row : (q : ℕ) (x : Sym) → step_in t q x ≡ option_and_then (λ k. get_or t.steps (q * (g.tokens + g.names) + k) None) (column_of g.tokens g.names x)
  step_in_row q x = ap (λ (m : ℕ). option_and_then (λ k. get_or t.steps (q * (m + t.names) + k) None) (column_of m t.names x)) tokens
      ∙ ap (λ (m : ℕ). option_and_then (λ k. get_or t.steps (q * (g.tokens + m) + k) None) (column_of g.tokens m x)) names

  inside : (q k : ℕ) (xs : List Sym) → slice_get done.words q ≡ Some xs → k < g.tokens + g.names → q * (g.tokens + g.names) + k < length t.steps
  inside q k xs word small =
      let within = slice_get_within done.words q xs word in
      let size = done.size in
      let count = done.rows.count in
      let le = times_le (suc q) (length t.states) (g.tokens + g.names) (omega arith) in
      omega arith

  found_step : (q k : ℕ) (xs : List Sym) → slice_get done.words q ≡ Some xs → k < g.tokens + g.names → IsStepOf g done.words (xs ++ symbol_at g k ∷ []) (get_or t.steps (q * (g.tokens + g.names) + k) None)
  found_step q k xs word small = done.rows.along q k xs _ small (slice_get-get_or t.steps (q * (g.tokens + g.names) + k) None (inside q k xs word small)) word

  some_of_step : (xs : List Sym) (o : Option ℕ) (p : ℕ) → IsStepOf g done.words xs o → o ≡ Some p → IsStateOf g done.words p xs
  some_of_step xs None p is e = absurd (none-some p e)
  some_of_step xs (Some q) p is e = subst (λ n. IsStateOf g done.words n xs) (same_Some _ _ e) is

  viable_state : (p : ℕ) (xs : List Sym) → IsStateOf g done.words p xs → IsViable g xs
  viable_state p xs (ys, at, same) = let v = (done.are_states.are_leading.leading p ys at).viable in (v.0, (same v.0).0 v.1)

  same_state : (p q : ℕ) (xs : List Sym) → IsStateOf g done.words p xs → IsStateOf g done.words q xs → p ≡ q
  same_state p q xs (ys, at, same) (zs, too, also) =
      let leading = done.are_states.are_leading in
      let e = leading_once g ys zs (leading.leading p ys at) (leading.leading q zs too) (same_items_trans g ys xs zs same (same_items_sym g zs xs also)) in
      place_once g done.words leading p q zs (at ∙ ap Some e) too

  step_of_state : (xs : List Sym) (o : Option ℕ) (p : ℕ) → IsStepOf g done.words xs o → IsStateOf g done.words p xs → o ≡ Some p
  step_of_state xs None p is state = absurd (is (viable_state p xs state))
  step_of_state xs (Some q) p is state = ap Some (same_state q p xs is state)

  step_to : (q p : ℕ) (xs : List Sym) (x : Sym) → slice_get done.words q ≡ Some xs → step_in t q x ≡ Some p → IsStateOf g done.words p (xs ++ x ∷ [])
  step_to q p xs x word e = option_and_then_some (λ k. get_or t.steps (q * (g.tokens + g.names) + k) None) (column_of g.tokens g.names x) p (sym (step_in_row q x) ∙ e) (λ k at is.
      let column = symbol_of_column g x k at in
      subst (λ y. IsStateOf g done.words p (xs ++ y ∷ [])) column.1 (some_of_step (xs ++ symbol_at g k ∷ []) _ p (found_step q k xs word column.0) is))

  last_names : (bound : ℕ) (xs : List Sym) (n : ℕ) → NamesBelow bound (xs ++ Name n ∷ []) → n < bound
  last_names bound [] n h = h.0
  last_names bound (Token a ∷ xs) n h = last_names bound xs n h
  last_names bound (Name m ∷ xs) n h = last_names bound xs n h.1

  last_tokens : (bound : ℕ) (xs : List Sym) (a : ℕ) → TokensBelow bound (xs ++ Token a ∷ []) → a < bound
  last_tokens bound [] a h = h.0
  last_tokens bound (Token b ∷ xs) a h = last_tokens bound xs a h.1
  last_tokens bound (Name m ∷ xs) a h = last_tokens bound xs a h

  column_in_range : (xs : List Sym) (x : Sym) → NamesBelow g.names (xs ++ x ∷ []) × TokensBelow g.tokens (xs ++ x ∷ []) → (k : ℕ) × (column_of g.tokens g.names x ≡ Some k)
  column_in_range xs (Token a) h = (a, ap (λ (b : Bool). if b then Some a else None) (lt-ltb a g.tokens (last_tokens g.tokens xs a h.1)))
  column_in_range xs (Name n) h = (g.tokens + n, ap (λ (b : Bool). if b then Some (g.tokens + n) else None) (lt-ltb n g.names (last_names g.names xs n h.0)))

  step_from : (q p : ℕ) (xs : List Sym) (x : Sym) → slice_get done.words q ≡ Some xs → IsStateOf g done.words p (xs ++ x ∷ []) → step_in t q x ≡ Some p
  step_from q p xs x word state =
      let column = column_in_range xs x (prefix_range_law g range (xs ++ x ∷ []) (viable_state p (xs ++ x ∷ []) state)) in
      let symbol = symbol_of_column g x column.0 column.1 in
      step_in_row q x ∙ ap (option_and_then (λ k. get_or t.steps (q * (g.tokens + g.names) + k) None)) column.1
      ∙ step_of_state (xs ++ x ∷ []) _ p (subst (λ y. IsStepOf g done.words (xs ++ y ∷ []) (get_or t.steps (q * (g.tokens + g.names) + column.0) None)) symbol.1 (found_step q column.0 xs word symbol.0)) state

  item_at : (q : ℕ) (xs : List Sym) → slice_get done.words q ≡ Some xs → (i : Item) → IsTrue (has_item t q i) ↔ IsValid g xs i
  item_at q xs word i =
      let within = slice_get_within done.words q xs word in
      done.rows.items q xs (get_or t.states q []) word (slice_get-get_or t.states q [] (let count = done.rows.count in omega arith)) i

  pub collection_of : IsCollectionOf g t
  collection_of = record {
    collection = record {
      words = done.words;
      are_states = done.are_states;
      count = done.rows.count;
      items = item_at;
      steps = λ q p xs x word. (step_to q p xs x word, step_from q p xs x word);
    };
    entries = are;
    tokens = tokens;
    names = names;
  }

  pub few_states : (limit : ℕ) → length t.states ≤ limit → HasMoreStates g limit → ⊥
  few_states limit le more =
      let collection = collection_of.collection in
      let less = (more_states_law g (length t.states) limit (has_item t) (step_in t) collection).0 more in
      absurd (omega arith)
