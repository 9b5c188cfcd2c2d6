-- The search finds the leading words in their order.
use Rattle.std.proofs.Common.{◌≡◌, ℕ, zero, suc, ◌+◌, ◌<◌, ◌≤◌, List, [], ◌∷◌, ◌++◌, length, slice_get, Some, Option, refl, sym, ap, ◌∙◌, subst, inl, inr, ◌⊎◌, ⊎_elim, arith}
use Rattle.std.proofs.lemmas.Bool.{cases_lt}
use Rattle.std.proofs.lemmas.List.{length_push}
use Rattle.std.proofs.lemmas.Option.{slice_get_within}
use Rattle.grammar_data.specs.declared.rule.Sym.{Sym}
use Rattle.grammar_data.specs.declared.rule.Sym.TheVariants.{Token, Name}
use Rattle.grammar_data.specs.Grammar.{Grammar}
use Rattle.grammar_theory.specs.Rules.{IsInRange, NamesBelow, TokensBelow}
use Rattle.grammar_theory.proofs.Lists.{Pushed, empty, pushed, all_pushed}
use Rattle.grammar_theory.proofs.DerivationLemmas.{slice_get_kept}
use Rattle.grammar_theory.proofs.RuleLemmas.{names_back, tokens_back, slice_get_last, slice_get_cases}
use Rattle.item_theory.specs.Items.{IsViable, HaveSameItems}
use Rattle.item_theory.specs.Chains.{first_item}
use Rattle.item_theory.specs.LeadingWords.{IsSymBefore, IsWordBefore, IsLeading, HasState, AreStates}
use Rattle.item_theory.specs.Search.{IsSearchedTo, next_symbol}
use Rattle.item_theory.proofs.ChainLemmas.{valid_first}
use Rattle.item_theory.proofs.LeadLemmas.{valid_chain}
use Rattle.item_theory.proofs.RangeLemmas.{chain_list_below}
use Rattle.item_theory.proofs.OrderLemmas.{sym_total, word_total, word_transitive, word_irreflexive, word_push, word_push_last, word_before_push, word_le, word_pop}
use Rattle.item_theory.proofs.StateLemmas.{same_items_refl, same_items_sym, same_viable, same_step, viable_before, has_state_along}

some_list : {us vs : List Sym} → ◌≡◌ {A = Option (List Sym)} (Some us) (Some vs) → us ≡ vs
some_list e = cc

pub has_state_more : (g : Grammar) (words more : List (List Sym)) (xs : List Sym) → HasState g words xs → HasState g (words ++ more) xs
has_state_more g words more xs (q, ys, at, same) = (q, ys, slice_get_kept words more q at, same)

-- ---- what stands before the next to be tried has a state

module _ (g : Grammar) (range : IsInRange g) (words : List (List Sym)) (p : ℕ) (top : List Sym) (x : Sym) (search : IsSearchedTo g words p top x) where
  -- a word before the one on top has a smaller number
  smaller : (q : ℕ) (zs : List Sym) → slice_get words q ≡ Some zs → IsWordBefore zs top → q < p
  smaller q zs at before = ⊎_elim (λ less. less) (λ le. absurd (not_later (eq_or_less p q le))) (cases_lt q p)
    where
      eq_or_less : (a b : ℕ) → a ≤ b → (a ≡ b) ⊎ (a < b)
      eq_or_less a b h = grind arith

      not_later : (p ≡ q) ⊎ (p < q) → ⊥
      not_later (inl e) = word_irreflexive top (subst (λ l. IsWordBefore l top) (some_list (sym at ∙ ap (slice_get words) (sym e) ∙ search.here)) before)
      not_later (inr less) = word_irreflexive top (word_transitive top zs top (search.are_leading.rising p q top zs less search.here at) before)

  no_later : (zs vs : List Sym) → (zs ≡ vs) ⊎ IsWordBefore zs vs → IsWordBefore vs top → IsWordBefore zs top
  no_later zs vs (inl e) before = subst (λ l. IsWordBefore l top) (sym e) before
  no_later zs vs (inr h) before = word_transitive zs vs top h before

  -- one more symbol behind a list with a state
  state_pushed : (vs : List Sym) (v : Sym) → IsViable g (vs ++ v ∷ []) → IsWordBefore vs top → HasState g words vs → HasState g words (vs ++ v ∷ [])
  state_pushed vs v viable before (q, zs, at, same) =
      has_state_along g words (zs ++ v ∷ []) (vs ++ v ∷ []) (same_step g range zs vs v same)
      (search.tried q zs v at (inl (smaller q zs at (no_later zs vs ((search.are_leading.leading q zs at).first vs same) before)))
      (same_viable g (vs ++ v ∷ []) (zs ++ v ∷ []) (same_items_sym g (zs ++ v ∷ []) (vs ++ v ∷ []) (same_step g range zs vs v same)) viable))

  state_cases : (vs : List Sym) (v : Sym) → IsViable g (vs ++ v ∷ []) → (IsWordBefore vs top → HasState g words vs) → IsWordBefore vs top ⊎ ((vs ≡ top) × IsSymBefore v x) → HasState g words (vs ++ v ∷ [])
  state_cases vs v viable shorter (inl before) = state_pushed vs v viable before (shorter before)
  state_cases vs v viable shorter (inr last) =
      subst (λ l. HasState g words (l ++ v ∷ [])) (sym last.0) (search.tried p top v search.here (inr (refl, last.1)) (subst (λ l. IsViable g (l ++ v ∷ [])) last.0 viable))

  state_by : (n : ℕ) (us : List Sym) → length us ≤ n → Pushed us → IsViable g us → IsWordBefore us (top ++ x ∷ []) → HasState g words us
  state_by n us le (empty e) viable before = (0, [], search.first, subst (λ l. HaveSameItems g [] l) (sym e) (same_items_refl g []))
  state_by zero us le (pushed vs v e) viable before = absurd (omega (arith, length_push vs v, ap length e))
  state_by (suc n) us le (pushed vs v e) viable before =
      let viable_here : IsViable g (vs ++ v ∷ []) = subst (λ l. IsViable g l) e viable in
      subst (λ l. HasState g words l) (sym e)
      (state_cases vs v viable_here
      (λ less. state_by n vs (omega (arith, length_push vs v, ap length e)) (all_pushed vs) (viable_before g range vs v viable_here) (word_before_push vs top x (word_le vs top less)))
      (word_pop vs top v x (subst (λ l. IsWordBefore l (top ++ x ∷ [])) e before)))

  pub state_before : (us : List Sym) → IsViable g us → IsWordBefore us (top ++ x ∷ []) → HasState g words us
  state_before us viable before = state_by (length us) us (omega arith) (all_pushed us) viable before

  -- a viable prefix without a state is a leading word
  new_first : ¬ (HasState g words (top ++ x ∷ [])) → (ys : List Sym) → HaveSameItems g (top ++ x ∷ []) ys → IsViable g ys → (top ++ x ∷ [] ≡ ys) ⊎ (IsWordBefore (top ++ x ∷ []) ys ⊎ IsWordBefore ys (top ++ x ∷ [])) → (top ++ x ∷ [] ≡ ys) ⊎ IsWordBefore (top ++ x ∷ []) ys
  new_first new ys same viable (inl e) = inl e
  new_first new ys same viable (inr (inl h)) = inr h
  new_first new ys same viable (inr (inr h)) =
      absurd (new (has_state_along g words ys (top ++ x ∷ []) (same_items_sym g (top ++ x ∷ []) ys same) (state_before ys viable h)))

  pub new_leading : IsViable g (top ++ x ∷ []) → ¬ (HasState g words (top ++ x ∷ [])) → IsLeading g (top ++ x ∷ [])
  new_leading viable new = record {
    viable = viable;
    first = λ ys same. new_first new ys same (same_viable g (top ++ x ∷ []) ys same viable) (word_total (top ++ x ∷ []) ys);
  }

-- ---- the search begins and goes on

single : {xs ys : List Sym} (i : ℕ) → slice_get (xs ∷ []) i ≡ Some ys → (i ≡ 0) × (ys ≡ xs)
single zero e = (refl, sym (some_list e))
single (suc i) e = absurd (cc)

empty_first : (ys : List Sym) → ([] ≡ ys) ⊎ IsWordBefore [] ys
empty_first [] = inl refl
empty_first (y ∷ ys) = inr (inl (omega arith))

not_before_first : (y : Sym) → IsSymBefore y (Token 0) → ⊥
not_before_first (Token a) h = omega arith
not_before_first (Name n) h = h

pub empty_leading : (g : Grammar) → IsLeading g []
empty_leading g = record { viable = (first_item g, valid_first g); first = λ ys same. empty_first ys }

pub search_begin : (g : Grammar) → IsSearchedTo g ([] ∷ []) 0 [] (Token 0)
search_begin g = record {
  are_leading = record {
    rising = λ i j xs ys less at too. (let e = (single j too).0 in absurd (omega arith));
    leading = λ i xs at. subst (λ l. IsLeading g l) (sym (single i at).1) (empty_leading g);
  };
  first = refl;
  here = refl;
  earlier = λ i xs at. subst (λ l. IsWordBefore l (Token 0 ∷ [])) (sym (single i at).1) (inl (omega arith));
  tried = λ q xs y at before viable. ⊎_elim (λ less. absurd (not-suc q less)) (λ h. absurd (not_before_first y h.1)) before;
}
  where
    not-suc : (q : ℕ) → q < 0 → ⊥
    not-suc q less = omega arith

skip_tried : (g : Grammar) (words : List (List Sym)) (p : ℕ) (top : List Sym) (x y : Sym) → IsSearchedTo g words p top x → ((z : Sym) → (z ≡ x) ⊎ IsSymBefore x z → IsSymBefore z y → IsViable g (top ++ z ∷ []) → HasState g words (top ++ z ∷ [])) → (q : ℕ) (xs : List Sym) (z : Sym) → slice_get words q ≡ Some xs → (q < p) ⊎ ((q ≡ p) × IsSymBefore z y) → IsViable g (xs ++ z ∷ []) → HasState g words (xs ++ z ∷ [])
skip_tried g words p top x y search between q xs z at (inl less) viable = search.tried q xs z at (inl less) viable
skip_tried g words p top x y search between q xs z at (inr last) viable = cases (sym_total z x)
  where
    same : xs ≡ top
    same = some_list (sym at ∙ ap (slice_get words) last.0 ∙ search.here)

    new : (z ≡ x) ⊎ IsSymBefore x z → HasState g words (xs ++ z ∷ [])
    new h = subst (λ l. HasState g words (l ++ z ∷ [])) (sym same) (between z h last.1 (subst (λ l. IsViable g (l ++ z ∷ [])) same viable))

    cases : (z ≡ x) ⊎ (IsSymBefore z x ⊎ IsSymBefore x z) → HasState g words (xs ++ z ∷ [])
    cases (inl e) = new (inl e)
    cases (inr (inl h)) = search.tried q xs z at (inr (last.0, h)) viable
    cases (inr (inr h)) = new (inr h)

pub search_skip : (g : Grammar) (words : List (List Sym)) (p : ℕ) (top : List Sym) (x y : Sym) → IsSearchedTo g words p top x → IsSymBefore x y → ((z : Sym) → (z ≡ x) ⊎ IsSymBefore x z → IsSymBefore z y → IsViable g (top ++ z ∷ []) → HasState g words (top ++ z ∷ [])) → IsSearchedTo g words p top y
search_skip g words p top x y search before between = record {
  are_leading = search.are_leading;
  first = search.first;
  here = search.here;
  earlier = λ i xs at. word_transitive xs (top ++ x ∷ []) (top ++ y ∷ []) (search.earlier i xs at) (word_push_last top x y before);
  tried = skip_tried g words p top x y search between;
}

-- between a symbol and the next one there is none
pub before_next : (x : Sym) → IsSymBefore x (next_symbol x)
before_next (Token a) = omega arith
before_next (Name n) = omega arith

none_between : (x z : Sym) → (z ≡ x) ⊎ IsSymBefore x z → IsSymBefore z (next_symbol x) → z ≡ x
none_between x z (inl e) less = e
none_between (Token a) (Token b) (inr h) less = absurd (omega arith)
none_between (Token a) (Name m) (inr h) less = absurd less
none_between (Name n) (Token b) (inr h) less = absurd h
none_between (Name n) (Name m) (inr h) less = absurd (omega arith)

pub search_old : (g : Grammar) (words : List (List Sym)) (p : ℕ) (top : List Sym) (x : Sym) → IsSearchedTo g words p top x → (IsViable g (top ++ x ∷ []) → HasState g words (top ++ x ∷ [])) → IsSearchedTo g words p top (next_symbol x)
search_old g words p top x search old =
    search_skip g words p top x (next_symbol x) search (before_next x)
    (λ z h less viable. (let e = none_between x z h less in subst (λ y. HasState g words (top ++ y ∷ [])) (sym e) (old (subst (λ y. IsViable g (top ++ y ∷ [])) e viable))))

-- ---- a new word

module _ (g : Grammar) (range : IsInRange g) (words : List (List Sym)) (p : ℕ) (top : List Sym) (x : Sym) (search : IsSearchedTo g words p top x) (viable_new : IsViable g (top ++ x ∷ [])) (new : ¬ (HasState g words (top ++ x ∷ []))) where
  abbrev more : List (List Sym)
  more = words ++ (top ++ x ∷ []) ∷ []

  old_or_new : (i : ℕ) (xs : List Sym) → slice_get more i ≡ Some xs → (slice_get words i ≡ Some xs) ⊎ ((i ≡ length words) × (top ++ x ∷ [] ≡ xs))
  old_or_new i xs at = slice_get_cases words (top ++ x ∷ []) xs i at

  more_rising : (i j : ℕ) (xs ys : List Sym) → i < j → (slice_get words i ≡ Some xs) ⊎ ((i ≡ length words) × (top ++ x ∷ [] ≡ xs)) → (slice_get words j ≡ Some ys) ⊎ ((j ≡ length words) × (top ++ x ∷ [] ≡ ys)) → IsWordBefore xs ys
  more_rising i j xs ys less (inl at) (inl too) = search.are_leading.rising i j xs ys less at too
  more_rising i j xs ys less (inl at) (inr last) = subst (λ l. IsWordBefore xs l) last.1 (search.earlier i xs at)
  more_rising i j xs ys less (inr last) (inl too) = let inside = slice_get_within words j ys too in let e = last.0 in absurd (omega arith)
  more_rising i j xs ys less (inr last) (inr last_too) = let e = last.0 in let f = last_too.0 in absurd (omega arith)

  more_leading : (xs : List Sym) (i : ℕ) → (slice_get words i ≡ Some xs) ⊎ ((i ≡ length words) × (top ++ x ∷ [] ≡ xs)) → IsLeading g xs
  more_leading xs i (inl at) = search.are_leading.leading i xs at
  more_leading xs i (inr last) = subst (λ l. IsLeading g l) last.1 (new_leading g range words p top x search viable_new new)

  more_earlier : (xs : List Sym) (i : ℕ) → (slice_get words i ≡ Some xs) ⊎ ((i ≡ length words) × (top ++ x ∷ [] ≡ xs)) → IsWordBefore xs (top ++ next_symbol x ∷ [])
  more_earlier xs i (inl at) = word_transitive xs (top ++ x ∷ []) (top ++ next_symbol x ∷ []) (search.earlier i xs at) (word_push_last top x (next_symbol x) (before_next x))
  more_earlier xs i (inr last) = subst (λ l. IsWordBefore l (top ++ next_symbol x ∷ [])) last.1 (word_push_last top x (next_symbol x) (before_next x))

  -- the new word stands behind what was tried
  old_word : (q : ℕ) (xs : List Sym) → q ≤ p → (slice_get words q ≡ Some xs) ⊎ ((q ≡ length words) × (top ++ x ∷ [] ≡ xs)) → slice_get words q ≡ Some xs
  old_word q xs le (inl at) = at
  old_word q xs le (inr last) = let inside = slice_get_within words p top search.here in let e = last.0 in absurd (omega arith)

  more_tried : (q : ℕ) (xs : List Sym) (y : Sym) → slice_get more q ≡ Some xs → (q < p) ⊎ ((q ≡ p) × IsSymBefore y (next_symbol x)) → IsViable g (xs ++ y ∷ []) → HasState g more (xs ++ y ∷ [])
  more_tried q xs y at (inl less) viable = has_state_more g words ((top ++ x ∷ []) ∷ []) (xs ++ y ∷ []) (search.tried q xs y (old_word q xs (omega arith) (old_or_new q xs at)) (inl less) viable)
  more_tried q xs y at (inr last) viable = cases (sym_total y x)
    where
      old : slice_get words q ≡ Some xs
      old = let e = last.0 in old_word q xs (omega arith) (old_or_new q xs at)

      same : xs ≡ top
      same = some_list (sym old ∙ ap (slice_get words) last.0 ∙ search.here)

      itself : y ≡ x → HasState g more (xs ++ y ∷ [])
      itself e =
          subst (λ l. HasState g more (l ++ y ∷ [])) (sym same)
          (subst (λ z. HasState g more (top ++ z ∷ [])) (sym e) (length words, top ++ x ∷ [], slice_get_last words (top ++ x ∷ []), same_items_refl g (top ++ x ∷ [])))

      cases : (y ≡ x) ⊎ (IsSymBefore y x ⊎ IsSymBefore x y) → HasState g more (xs ++ y ∷ [])
      cases (inl e) = itself e
      cases (inr (inl h)) = has_state_more g words ((top ++ x ∷ []) ∷ []) (xs ++ y ∷ []) (search.tried q xs y old (inr (last.0, h)) viable)
      cases (inr (inr h)) = itself (none_between x y (inr h) last.1)

  pub search_new : IsSearchedTo g more p top (next_symbol x)
  search_new = record {
    are_leading = record {
      rising = λ i j xs ys less at too. more_rising i j xs ys less (old_or_new i xs at) (old_or_new j ys too);
      leading = λ i xs at. more_leading xs i (old_or_new i xs at);
    };
    first = slice_get_kept words ((top ++ x ∷ []) ∷ []) 0 search.first;
    here = slice_get_kept words ((top ++ x ∷ []) ∷ []) p search.here;
    earlier = λ i xs at. more_earlier xs i (old_or_new i xs at);
    tried = more_tried;
  }

-- ---- the last symbols

-- the last symbol of a viable prefix comes before the first name that the grammar hasn't
last_before : (g : Grammar) → (x : Sym) → NamesBelow g.names (x ∷ []) × TokensBelow g.tokens (x ∷ []) → IsSymBefore x (Name g.names)
last_before g (Token a) below = tt
last_before g (Name n) below = below.0.0

list_below : (g : Grammar) → IsInRange g → (xs : List Sym) → IsViable g xs → NamesBelow g.names xs × TokensBelow g.tokens xs
list_below g range xs (i, v) = chain_list_below g range (valid_chain g range v)

pub last_symbol : (g : Grammar) → IsInRange g → (xs : List Sym) (x : Sym) → IsViable g (xs ++ x ∷ []) → NamesBelow g.names (x ∷ []) × TokensBelow g.tokens (x ∷ [])
last_symbol g range xs x viable = let below = list_below g range (xs ++ x ∷ []) viable in (names_back (λ k. k < g.names) xs (x ∷ []) below.0, tokens_back (λ a. a < g.tokens) xs (x ∷ []) below.1)

no_token_between : (g : Grammar) (z : Sym) → TokensBelow g.tokens (z ∷ []) → (z ≡ Token g.tokens) ⊎ IsSymBefore (Token g.tokens) z → IsSymBefore z (Name 0) → ⊥
no_token_between g (Token a) below (inl e) less = let same : a ≡ g.tokens = cc in let h = below.0 in omega arith
no_token_between g (Token a) below (inr h) less = let l = below.0 in omega arith
no_token_between g (Name n) below h less = omega arith

pub search_names : (g : Grammar) → IsInRange g → (words : List (List Sym)) (p : ℕ) (top : List Sym) → IsSearchedTo g words p top (Token g.tokens) → IsSearchedTo g words p top (Name 0)
search_names g range words p top search =
    search_skip g words p top (Token g.tokens) (Name 0) search tt (λ z h less viable. absurd (no_token_between g z (last_symbol g range top z viable).1 h less))

-- all symbols were tried behind the words up to this one
all_tried : (g : Grammar) → IsInRange g → (words : List (List Sym)) (p : ℕ) (top : List Sym) → IsSearchedTo g words p top (Name g.names) → (q : ℕ) (xs : List Sym) (y : Sym) → slice_get words q ≡ Some xs → q < p + 1 → IsViable g (xs ++ y ∷ []) → HasState g words (xs ++ y ∷ [])
all_tried g range words p top search q xs y at less viable = cases (up_to q p less)
  where
    up_to : (a b : ℕ) → a < b + 1 → (a < b) ⊎ (a ≡ b)
    up_to a b h = grind arith

    cases : (q < p) ⊎ (q ≡ p) → HasState g words (xs ++ y ∷ [])
    cases (inl h) = search.tried q xs y at (inl h) viable
    cases (inr e) = search.tried q xs y at (inr (e, last_before g y (last_symbol g range xs y viable))) viable

pub search_next : (g : Grammar) → IsInRange g → (words : List (List Sym)) (p : ℕ) (top next : List Sym) → IsSearchedTo g words p top (Name g.names) → slice_get words (p + 1) ≡ Some next → IsSearchedTo g words (p + 1) next (Token 0)
search_next g range words p top next search at = record {
  are_leading = search.are_leading;
  first = search.first;
  here = at;
  earlier = λ i xs here. word_transitive xs (top ++ Name g.names ∷ []) (next ++ Token 0 ∷ []) (search.earlier i xs here) (word_push top next (Name g.names) (Token 0) (search.are_leading.rising p (p + 1) top next (omega arith) search.here at));
  tried = λ q xs y here before viable. ⊎_elim (λ less. all_tried g range words p top search q xs y here less viable) (λ h. absurd (not_before_first y h.1)) before;
}

module _ (g : Grammar) (range : IsInRange g) (words : List (List Sym)) (p : ℕ) (top : List Sym) (search : IsSearchedTo g words p top (Name g.names)) (last : p + 1 ≡ length words) where
  every_pushed : (vs : List Sym) (v : Sym) → IsViable g (vs ++ v ∷ []) → HasState g words vs → HasState g words (vs ++ v ∷ [])
  every_pushed vs v viable (q, zs, at, same) =
      has_state_along g words (zs ++ v ∷ []) (vs ++ v ∷ []) (same_step g range zs vs v same)
      (all_tried g range words p top search q zs v at (let inside = slice_get_within words q zs at in omega arith)
      (same_viable g (vs ++ v ∷ []) (zs ++ v ∷ []) (same_items_sym g (zs ++ v ∷ []) (vs ++ v ∷ []) (same_step g range zs vs v same)) viable))

  every_by : (n : ℕ) (us : List Sym) → length us ≤ n → Pushed us → IsViable g us → HasState g words us
  every_by n us le (empty e) viable = (0, [], search.first, subst (λ l. HaveSameItems g [] l) (sym e) (same_items_refl g []))
  every_by zero us le (pushed vs v e) viable = absurd (omega (arith, length_push vs v, ap length e))
  every_by (suc n) us le (pushed vs v e) viable =
      let viable_here : IsViable g (vs ++ v ∷ []) = subst (λ l. IsViable g l) e viable in
      subst (λ l. HasState g words l) (sym e)
      (every_pushed vs v viable_here (every_by n vs (omega (arith, length_push vs v, ap length e)) (all_pushed vs) (viable_before g range vs v viable_here)))

  pub search_end : AreStates g words
  search_end = record {
    are_leading = search.are_leading;
    every = λ us viable. every_by (length us) us (omega arith) (all_pushed us) viable;
  }
