-- One step of the search, and its end.
use Rattle.std.proofs.Common.{◌≡◌, ◌≢◌, ℕ, zero, suc, ◌+◌, ◌-◌, ◌*◌, ◌<◌, ◌≤◌, ◌↔◌, ◌⊎◌, inl, inr, IsTrue, List, [], ◌∷◌, ◌++◌, length, slice_get, Option, Some, None, All, refl, sym, ap, subst, ◌∙◌, arith}
use Rattle.std.proofs.lemmas.Bool.{false≢true, cases_lt}
use Rattle.std.proofs.lemmas.List.{length_push}
use Rattle.std.proofs.lemmas.List.Elements.{All-head}
use Rattle.std.proofs.lemmas.Option.{slice_get_within, same_Some, none-some, slice_get_past}
use Rattle.grammar_data.specs.declared.rule.Sym.{Sym}
use Rattle.grammar_data.specs.declared.rule.Sym.TheVariants.{Token, Name}
use Rattle.grammar_data.specs.Grammar.{Grammar}
use Rattle.grammar_theory.specs.Rules.{IsInRange}
use Rattle.grammar_theory.proofs.RuleLemmas.{slice_get_last, slice_get_cases}
use Rattle.item_theory.specs.Items.{Item, IsValid, IsViable, HaveSameItems}
use Rattle.item_theory.specs.Chains.{Closure, kept, IsMoved, IsFirstItem}
use Rattle.item_theory.specs.LeadingWords.{HasState}
use Rattle.item_theory.specs.Search.{IsSearchedTo, next_symbol}
use Rattle.item_theory.specs.Collections.{HasMoreStates}
use Rattle.item_theory.proofs.ClosureLemmas.{closure_weaker}
use Rattle.item_theory.proofs.ItemLaws.{first_closure_law, moved_closure_law}
use Rattle.item_theory.proofs.StateLaws.{step_law, search_begin_law, search_old_law, search_new_law, search_names_law, search_next_law, search_end_law}
use Rattle.item_theory.proofs.StateLemmas.{same_items_refl}
use Rattle.collection_data.specs.declared.entry.Entry.{Entry}
use Rattle.item_sets.specs.declared.spot.Spot.{Spot}
use Rattle.collection_data.specs.Entries.{entries_have, IsEntry, AreEntries}
use Rattle.item_sets.specs.Closing.{IsSetting}
use Rattle.item_sets.specs.Layout.{IsClosureOf}
use Rattle.item_sets.specs.Successors.{moved_entries}
use Rattle.item_sets.specs.Searching.{kernel_of, IsStateSet, IsNewKernel, IsFoundOrAdded, IsStepFound, IsSearchAt, IsSearchBefore}
use Rattle.collection_data.specs.Rows.{symbol_at, IsStepOf, AreAllRowsOf}
use Rattle.item_sets.proofs.KernelLemmas.{kernel_of_closure}
use Rattle.collection_data.proofs.SameEntries.{item_in}
use Rattle.item_sets.proofs.SuccessorLemmas.{kernel_sound, kernel_whole, kernel_is, kernel_dots}
use Rattle.item_sets.proofs.StateFinding.{kept_get, set_at_state}
use Rattle.collection_data.proofs.EntryLemmas.{get_at}
use Rattle.collection_data.proofs.RowLemmas.{row_once, row_before, token_at, name_at, column_at}

-- ---- the search goes on by columns

module _ (g : Grammar) (range : IsInRange g) (words : List (List Sym)) (p : ℕ) (top : List Sym) where
  -- at the first column
  pub first_column : IsSearchedTo g words p top (Token 0) → IsSearchedTo g words p top (symbol_at g 0)
  first_column at = cases (cases_lt 0 g.tokens)
    where
      cases : (0 < g.tokens) ⊎ (g.tokens ≤ 0) → IsSearchedTo g words p top (symbol_at g 0)
      cases (inl some) = subst (λ x. IsSearchedTo g words p top x) (sym (token_at g 0 some)) at
      cases (inr none) =
          let e : 0 ≡ g.tokens = omega arith in
          let z : 0 - g.tokens ≡ 0 = omega arith in
          subst (λ x. IsSearchedTo g words p top x) (sym (name_at g 0 none ∙ ap Name z)) (search_names_law g range words p top (subst (λ n. IsSearchedTo g words p top (Token n)) e at))

  pub next_column : (c : ℕ) → IsSearchedTo g words p top (next_symbol (symbol_at g c)) → IsSearchedTo g words p top (symbol_at g (c + 1))
  next_column c at = cases (cases_lt c g.tokens)
    where
      within : c < g.tokens → IsSearchedTo g words p top (Token (c + 1)) → (c + 1 < g.tokens) ⊎ (g.tokens ≤ c + 1) → IsSearchedTo g words p top (symbol_at g (c + 1))
      within token here (inl less) = subst (λ x. IsSearchedTo g words p top x) (sym (token_at g (c + 1) less)) here
      within token here (inr more) =
          let e : c + 1 ≡ g.tokens = omega arith in
          let z : c + 1 - g.tokens ≡ 0 = omega arith in
          subst (λ x. IsSearchedTo g words p top x) (sym (name_at g (c + 1) more ∙ ap Name z)) (search_names_law g range words p top (subst (λ n. IsSearchedTo g words p top (Token n)) e here))

      cases : (c < g.tokens) ⊎ (g.tokens ≤ c) → IsSearchedTo g words p top (symbol_at g (c + 1))
      cases (inl token) = within token (subst (λ x. IsSearchedTo g words p top (next_symbol x)) (token_at g c token) at) (cases_lt (c + 1) g.tokens)
      cases (inr name) =
          let e : c - g.tokens + 1 ≡ c + 1 - g.tokens = omega arith in
          let here : IsSearchedTo g words p top (Name (c - g.tokens + 1)) = subst (λ x. IsSearchedTo g words p top (next_symbol x)) (name_at g c name) at in
          subst (λ x. IsSearchedTo g words p top x) (sym (name_at g (c + 1) (omega arith) ∙ ap Name (sym e))) here

-- ---- lists of words with one more

not_viable_on : (g : Grammar) (words : List (List Sym)) (word xs : List Sym) (o : Option ℕ) → IsStepOf g words xs o → IsStepOf g (words ++ word ∷ []) xs o
not_viable_on g words word xs None h = h
not_viable_on g words word xs (Some p) (ys, at, same) = (ys, kept_get words (word ∷ []) p ys at, same)

step_same : (g : Grammar) (words : List (List Sym)) (xs ys : List Sym) (o : Option ℕ) → xs ≡ ys → IsStepOf g words xs o → IsStepOf g words ys o
step_same g words xs ys o e h = subst (λ l. IsStepOf g words l o) e h

some_item : (g : Grammar) (kernel : List Entry) → AreEntries g kernel → kernel ≢ [] → (i : Item) × IsTrue (entries_have kernel i)
some_item g [] are some = absurd (some refl)
some_item g (e ∷ es) are some = let is = All-head (IsEntry g) e es are.each in (record { rule = e.rule; dot = e.dot; ahead = is.ahead }, item_in g e es is)

-- ---- one step

module _ (g : Grammar) (rows fronts : List (List Spot)) (setting : IsSetting g rows fronts) (states : List (List Entry)) (all : All (IsStateSet g) states) (steps : List (Option ℕ)) (p c : ℕ)
    (less : c < g.tokens + g.names) (search : IsSearchAt g states steps p c) (set : List Entry) (here : slice_get states p ≡ Some set) where
  abbrev Kernel : List Entry
  Kernel = moved_entries rows c set

  abbrev Word : List Sym
  Word = search.top ++ symbol_at g c ∷ []

  abbrev Given : Item → Type 0
  Given i = IsTrue (entries_have Kernel i)

  own : AreEntries g set
  own = (set_at_state g states all p set here).are

  valid_here : (i : Item) → IsTrue (entries_have set i) ↔ IsValid g search.top i
  valid_here i = search.rows.items p search.top set search.searched.here here i

  given_moved : (j : Item) → Given j → IsMoved g (IsValid g search.top) (symbol_at g c) j
  given_moved j h = let m = kernel_sound g rows fronts setting (symbol_at g c) c (column_at g c less) set own.each j h in (m.0, (valid_here m.0).0 m.1, m.2)

  moved_given : (j : Item) → IsMoved g (IsValid g search.top) (symbol_at g c) j → Given j
  moved_given j (i, v, m) = kernel_whole g rows fronts setting (symbol_at g c) c (column_at g c less) set own.each i j ((valid_here i).1 v) m

  valid_closed : (i : Item) → IsValid g Word i → Closure g Given i
  valid_closed i v = closure_weaker moved_given ((moved_closure_law g setting.range search.top (symbol_at g c) i).0 v)

  closed_valid : (i : Item) → Closure g Given i → IsValid g Word i
  closed_valid i k = (moved_closure_law g setting.range search.top (symbol_at g c) i).1 (closure_weaker given_moved k)

  kernel_are : AreEntries g Kernel
  kernel_are = (kernel_is g rows fronts setting (symbol_at g c) c (column_at g c less) set own).entries

  dots : All (λ (e : Entry). 0 < e.dot) Kernel
  dots = kernel_dots g rows fronts setting (symbol_at g c) c (column_at g c less) set

  viable_some : Kernel ≢ [] → IsViable g Word
  viable_some some = let i = some_item g Kernel kernel_are some in (i.0, closed_valid i.0 (kept i.1))

  not_viable : Kernel ≡ [] → IsViable g Word → ⊥
  not_viable none viable =
      let s = (step_law g setting.range search.top (symbol_at g c)).0 viable in
      false≢true (subst (λ (k : List Entry). IsTrue (entries_have k s.1)) none (moved_given s.1 (s.0, s.2, s.3)))

  -- a state with the kernel has the items of the word
  state_items : (q : ℕ) (es : List Entry) (ys : List Sym) → Kernel ≢ [] → slice_get states q ≡ Some es → kernel_of es ≡ Kernel → slice_get search.words q ≡ Some ys → HaveSameItems g ys Word
  state_items q es ys some at same word i =
      let closed = (set_at_state g states all q es at).closed (λ e. some (sym same ∙ e)) i in
      let items = search.rows.items q ys es word at i in (
        λ v. closed_valid i (subst (λ (k : List Entry). Closure g (λ j. IsTrue (entries_have k j)) i) same (closed.0 (items.1 v))),
        λ v. items.0 (closed.1 (subst (λ (k : List Entry). Closure g (λ j. IsTrue (entries_have k j)) i) (sym same) (valid_closed i v))),
      )

  new_has_no_state : IsNewKernel states Kernel → HasState g search.words Word → ⊥
  new_has_no_state fresh (q, ys, word, same) =
      let within = slice_get_within search.words q ys word in
      let at = get_at states q (let size = search.rows.count in omega arith) in
      let es_are = (set_at_state g states all q at.0 at.1).are in
      let items = search.rows.items q ys at.0 word at.1 in
      fresh q (
        at.0,
        at.1,
        kernel_of_closure g Kernel at.0 kernel_are dots es_are (λ i. (
          λ h. valid_closed i ((same i).0 ((items i).0 h)),
          λ k. (items i).1 ((same i).1 (closed_valid i k)),
        )),
      )

  -- ---- the tables with one more step

  step_cases : (words : List (List Sym)) (word : List Sym) (step : Option ℕ) → IsStepOf g words word step → (q k : ℕ) (xs : List Sym) (o : Option ℕ) → k < g.tokens + g.names
      → ((xs ++ symbol_at g k ∷ []) ≡ (xs ++ symbol_at g k ∷ []))
      → (slice_get steps (q * (g.tokens + g.names) + k) ≡ Some o → IsStepOf g words (xs ++ symbol_at g k ∷ []) o)
      → (q ≡ p → k ≡ c → xs ++ symbol_at g k ∷ [] ≡ word)
      → (slice_get steps (q * (g.tokens + g.names) + k) ≡ Some o) ⊎ ((q * (g.tokens + g.names) + k ≡ length steps) × (step ≡ o)) → IsStepOf g words (xs ++ symbol_at g k ∷ []) o
  step_cases words word step is q k xs o small e old same (inl at) = old at
  step_cases words word step is q k xs o small e old same (inr last) =
      let place = row_once q k p c (g.tokens + g.names) small less (last.0 ∙ search.size) in
      subst (λ s. IsStepOf g words (xs ++ symbol_at g k ∷ []) s) last.1 (step_same g words word (xs ++ symbol_at g k ∷ []) step (sym (same place.0 place.1)) is)

  word_here : (words : List (List Sym)) → slice_get words p ≡ Some search.top → (q k : ℕ) (xs : List Sym) → slice_get words q ≡ Some xs → q ≡ p → k ≡ c → xs ++ symbol_at g k ∷ [] ≡ Word
  word_here words top q k xs word row column =
      let same : xs ≡ search.top = same_Some _ _ (sym word ∙ ap (slice_get words) row ∙ top) in
      ap (λ l. l ++ symbol_at g k ∷ []) same ∙ ap (λ j. search.top ++ symbol_at g j ∷ []) column

  pushed_size : (step : Option ℕ) → length (steps ++ step ∷ []) ≡ p * (g.tokens + g.names) + (c + 1)
  pushed_size step = let size = search.size in let push = length_push steps step in omega arith

  -- an old state, or none
  same_states : (step : Option ℕ) → IsStepOf g search.words Word step → (IsViable g Word → HasState g search.words Word) → IsSearchAt g states (steps ++ step ∷ []) p (c + 1)
  same_states step is old = record {
    words = search.words;
    top = search.top;
    searched = next_column g setting.range search.words p search.top c (search_old_law g search.words p search.top (symbol_at g c) search.searched old);
    rows = record {
      count = search.rows.count;
      items = search.rows.items;
      along = λ q k xs o small at word. step_cases search.words Word step is q k xs o small refl (λ past. search.rows.along q k xs o small past word)
          (word_here search.words search.searched.here q k xs word) (slice_get_cases steps step o (q * (g.tokens + g.names) + k) at);
    };
    size = pushed_size step;
  }

  -- a new state
  module _ (some : Kernel ≢ []) (fresh : IsNewKernel states Kernel) (entries : List Entry) (closure : IsClosureOf g Kernel entries) where
    abbrev Words : List (List Sym)
    Words = search.words ++ Word ∷ []

    new_items : (q : ℕ) (xs : List Sym) (es : List Entry) → (i : Item) → (slice_get search.words q ≡ Some xs) ⊎ ((q ≡ length search.words) × (Word ≡ xs)) → (slice_get states q ≡ Some es) ⊎ ((q ≡ length states) × (entries ≡ es)) → IsTrue (entries_have es i) ↔ IsValid g xs i
    new_items q xs es i (inl word) (inl at) = search.rows.items q xs es word at i
    new_items q xs es i (inl word) (inr last) = let within = slice_get_within search.words q xs word in let size = search.rows.count in let place = last.0 in absurd (omega arith)
    new_items q xs es i (inr last) (inl at) = let within = slice_get_within states q es at in let size = search.rows.count in let place = last.0 in absurd (omega arith)
    new_items q xs es i (inr word) (inr last) = (
      λ h. subst (λ l. IsValid g l i) word.1 (closed_valid i ((closure.have i).0 (subst (λ (l : List Entry). IsTrue (entries_have l i)) (sym last.1) h))),
      λ v. subst (λ (l : List Entry). IsTrue (entries_have l i)) last.1 ((closure.have i).1 (valid_closed i (subst (λ l. IsValid g l i) (sym word.1) v))),
    )

    top_kept : slice_get Words p ≡ Some search.top
    top_kept = kept_get search.words (Word ∷ []) p search.top search.searched.here

    -- a row that was begun is of an old word
    old_along : (q k : ℕ) (xs : List Sym) (o : Option ℕ) → k < g.tokens + g.names → slice_get steps (q * (g.tokens + g.names) + k) ≡ Some o → (slice_get search.words q ≡ Some xs) ⊎ ((q ≡ length search.words) × (Word ≡ xs)) → IsStepOf g Words (xs ++ symbol_at g k ∷ []) o
    old_along q k xs o small at (inl word) = not_viable_on g search.words Word (xs ++ symbol_at g k ∷ []) o (search.rows.along q k xs o small at word)
    old_along q k xs o small at (inr last) =
        let inside = slice_get_within steps (q * (g.tokens + g.names) + k) o at in
        let before : q * (g.tokens + g.names) + k < p * (g.tokens + g.names) + c = let size = search.size in omega arith in
        let le = row_before q k p c (g.tokens + g.names) (omega arith) small before in
        let within = slice_get_within search.words p search.top search.searched.here in
        let place = last.0 in
        absurd (omega arith)

    new_state : IsSearchAt g (states ++ entries ∷ []) (steps ++ Some (length states) ∷ []) p (c + 1)
    new_state = record {
      words = Words;
      top = search.top;
      searched = next_column g setting.range Words p search.top c (search_new_law g setting.range search.words p search.top (symbol_at g c) search.searched (viable_some some) (new_has_no_state fresh));
      rows = record {
        count = length_push search.words Word ∙ ap (λ n. n + 1) search.rows.count ∙ sym (length_push states entries);
        items = λ q xs es word at i. new_items q xs es i (slice_get_cases search.words Word xs q word) (slice_get_cases states entries es q at);
        along = λ q k xs o small at word. step_cases Words Word (Some (length states))
            (Word, subst (λ n. slice_get Words n ≡ Some Word) search.rows.count (slice_get_last search.words Word), same_items_refl g Word) q k xs o small refl
            (λ past. old_along q k xs o small past (slice_get_cases search.words Word xs q word))
            (word_here Words top_kept q k xs word) (slice_get_cases steps (Some (length states)) o (q * (g.tokens + g.names) + k) at);
      };
      size = pushed_size (Some (length states));
    }

  some_step : (new : List (List Entry)) (q : ℕ) → Kernel ≢ [] → IsFoundOrAdded g Kernel states new q → IsSearchAt g new (steps ++ Some q ∷ []) p (c + 1)
  some_step new q some (inl (found, same)) =
      let within = slice_get_within states q found.0 found.1 in
      let word = get_at search.words q (let size = search.rows.count in omega arith) in
      let items = state_items q found.0 word.0 some found.1 found.2 word.1 in
      subst (λ (s : List (List Entry)). IsSearchAt g s (steps ++ Some q ∷ []) p (c + 1)) (sym same) (same_states (Some q) (word.0, word.1, items) (λ v. (q, word.0, word.1, items)))
  some_step new q some (inr h) =
      subst (λ n. IsSearchAt g new (steps ++ Some n ∷ []) p (c + 1)) (sym h.1.3)
      (subst (λ (s : List (List Entry)). IsSearchAt g s (steps ++ Some (length states) ∷ []) p (c + 1)) (sym h.1.2) (new_state some h.0 h.1.0 h.1.1))

  -- with the step that was found
  pub search_step : (new : List (List Entry)) (o : Option ℕ) → IsStepFound g Kernel states new o → IsSearchAt g new (steps ++ o ∷ []) p (c + 1)
  search_step new None h = subst (λ (s : List (List Entry)). IsSearchAt g s (steps ++ None ∷ []) p (c + 1)) (sym h.1) (same_states None (not_viable h.0) (λ v. absurd (not_viable h.0 v)))
  search_step new (Some q) h = some_step new q h.0 h.1

  -- one more state than the limit
  pub more_states : (limit : ℕ) → limit ≤ length states → Kernel ≢ [] → IsNewKernel states Kernel → HasMoreStates g limit
  more_states limit le some fresh =
      let words = search.words ++ Word ∷ [] in
      let next = search_new_law g setting.range search.words p search.top (symbol_at g c) search.searched (viable_some some) (new_has_no_state fresh) in
      (words, next.are_leading, (let size = search.rows.count in let push = length_push search.words Word in omega arith))

-- ---- the begin and the end

module _ (g : Grammar) (range : IsInRange g) where
  first_valid : (given : List Entry) (set : List Entry) → ((i : Item) → IsTrue (entries_have given i) ↔ IsFirstItem g i) → IsClosureOf g given set → (i : Item) → IsTrue (entries_have set i) ↔ IsValid g [] i
  first_valid given set only closure i = (
    λ h. (first_closure_law g range i).1 (closure_weaker (λ j k. (only j).0 k) ((closure.have i).0 h)),
    λ v. (closure.have i).1 (closure_weaker (λ j k. (only j).1 k) ((first_closure_law g range i).0 v)),
  )

  nil_get : (k : ℕ) (x : List Sym) → slice_get ([] ∷ []) k ≡ Some x → (k ≡ 0) × (x ≡ [])
  nil_get zero x e = (refl, sym (same_Some _ _ e))
  nil_get (suc k) x e = absurd (none-some x e)

  one_get : (k : ℕ) (set es : List Entry) → slice_get (set ∷ []) k ≡ Some es → set ≡ es
  one_get zero set es e = same_Some _ _ e
  one_get (suc k) set es e = absurd (none-some es e)

  -- with the state of the empty word alone
  pub search_first : (given : List Entry) (set : List Entry) → ((i : Item) → IsTrue (entries_have given i) ↔ IsFirstItem g i) → IsClosureOf g given set → IsSearchAt g (set ∷ []) [] 0 0
  search_first given set only closure = record {
    words = [] ∷ [];
    top = [];
    searched = first_column g range ([] ∷ []) 0 [] (search_begin_law g);
    rows = record {
      count = refl;
      items = λ q xs es word at i.
          subst (λ (l : List Sym). IsTrue (entries_have es i) ↔ IsValid g l i) (sym (nil_get q xs word).1)
          (subst (λ (l : List Entry). IsTrue (entries_have l i) ↔ IsValid g [] i) (one_get q set es at) (first_valid given set only closure i));
      along = λ q k xs o small at word. absurd (none-some o (sym (slice_get_past [] (q * (g.tokens + g.names) + k) (omega arith)) ∙ at));
    };
    size = omega arith;
  }

  -- after the last column of a row
  module _ (states : List (List Entry)) (steps : List (Option ℕ)) (p : ℕ) (search : IsSearchAt g states steps p (g.tokens + g.names)) where
    last_name : IsSearchedTo g search.words p search.top (Name g.names)
    last_name =
        let at : g.tokens + g.names - g.tokens ≡ g.names = omega arith in
        subst (λ x. IsSearchedTo g search.words p search.top x) (name_at g (g.tokens + g.names) (omega arith) ∙ ap Name at) search.searched

    pub row_next : p + 1 < length states → IsSearchAt g states steps (p + 1) 0
    row_next less =
        let word = get_at search.words (p + 1) (let size = search.rows.count in omega arith) in
        record {
          words = search.words;
          top = word.0;
          searched = first_column g range search.words (p + 1) word.0 (search_next_law g range search.words p search.top word.0 last_name word.1);
          rows = search.rows;
          size = (let size = search.size in let row = one_more_row p (g.tokens + g.names) in omega arith);
        }
      where
        one_more_row : (q w : ℕ) → (q + 1) * w + 0 ≡ q * w + w
        one_more_row q w = omega arith

    pub row_last : p + 1 ≡ length states → AreAllRowsOf g states steps
    row_last last = record {
      words = search.words;
      are_states = search_end_law g range search.words p search.top last_name (last ∙ sym search.rows.count);
      rows = search.rows;
      size = (let size = search.size in let row = one_row p (g.tokens + g.names) in let rows = ap (λ n. n * (g.tokens + g.names)) last in omega arith);
    }
      where
        one_row : (q w : ℕ) → (q + 1) * w ≡ q * w + w
        one_row q w = omega arith

    pub search_before : IsSearchBefore g states steps (p + 1)
    search_before = record { within = row_next; end = row_last }
