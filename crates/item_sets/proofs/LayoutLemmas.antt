-- Entries that rise, and how they are laid out.
use Rattle.std.proofs.Common.{◌≡◌, ℕ, zero, suc, ◌+◌, ◌-◌, ◌<◌, ◌≤◌, ◌⊎◌, inl, inr, true, false, IsTrue, List, [], ◌∷◌, ◌++◌, length, get_or, drop, slice_get, Option, Some, None, All, refl, sym, ap, subst, ◌∙◌, arith, append_assoc}
use Rattle.std.specs.List.{AllPairs}
use Rattle.std.specs.Option.{option_map}
use Rattle.std.proofs.lemmas.Bool.{or_left, or_right, or_cases, false≢true, cases_eq, cases_lt, cases_Bool}
use Rattle.std.proofs.lemmas.List.{get_or-drop, length-drop}
use Rattle.std.proofs.lemmas.List.Elements.{All-head, All-tail, All-cons, All-drop, All-push, All-weaker}
use Rattle.std.proofs.lemmas.List.Kept.{AllPairs-cons}
use Rattle.std.proofs.lemmas.Option.{same_Some, none-some, slice_get_within}
use Rattle.grammar_data.specs.declared.rule.Sym.{Sym}
use Rattle.grammar_data.specs.Grammar.{Rule, Grammar}
use Rattle.grammar_data.specs.TokenSet.{IsTokenSet, has_token}
use Rattle.grammar_theory.specs.Rules.{IsRule}
use Rattle.grammar_theory.proofs.RuleLemmas.{rule_once}
use Rattle.item_theory.specs.Items.{Item}
use Rattle.item_theory.proofs.ItemLemmas.{own_rule}
use Rattle.collection_data.specs.declared.entry.Entry.{Entry}
use Rattle.collection_data.specs.Entries.{entry_has, entries_have, IsEntryBefore, IsEntry, AreEntries}
use Rattle.item_sets.specs.Closing.{IsOpenedItem, IsSetting, IsClosing}
use Rattle.item_sets.specs.Layout.{IsKernel, IsFrontLaid, front_entry, IsMovedLaid, IsLaid, IsLaidOut, IsClosureOf}
use Rattle.collection_data.proofs.EntryLemmas.{entry_parts, entry_from, Rising, rising_of}
use Rattle.item_sets.proofs.ClosureExact.{closure_known}
use Rattle.item_sets.specs.declared.spot.Spot.{Spot}
use Rattle.collection_data.proofs.TokenLemmas.{past_words}

-- ---- one more among others

pub all_insert : {X : Type 0} (P : X → Type 0) (xs ys : List X) (e : X) → All P (xs ++ ys) → P e → All P (xs ++ e ∷ ys)
all_insert P [] ys e all p = All-cons P e ys p all
all_insert P (x ∷ xs) ys e all p = All-cons P x (xs ++ e ∷ ys) (All-head P x (xs ++ ys) all) (all_insert P xs ys e (All-tail P x (xs ++ ys) all) p)

pub pairs_of : (es : List Entry) → Rising es → AllPairs IsEntryBefore es
pairs_of [] h = λ i j d less within. absurd (omega arith)
pairs_of (e ∷ es) h = AllPairs-cons IsEntryBefore e es h.0 (pairs_of es h.1)

rising_insert : (xs ys : List Entry) (e : Entry) → Rising (xs ++ ys) → All (λ x. IsEntryBefore x e) xs → All (IsEntryBefore e) ys → Rising (xs ++ e ∷ ys)
rising_insert [] ys e h before after = (after, h)
rising_insert (x ∷ xs) ys e h before after = (all_insert (IsEntryBefore x) xs ys e h.0 (All-head (λ d. IsEntryBefore d e) x xs before), rising_insert xs ys e h.1 (All-tail (λ d. IsEntryBefore d e) x xs before) after)

swapped : {P Q : Type 0} → P ⊎ Q → Q ⊎ P
swapped (inl p) = inr p
swapped (inr q) = inl q

inserted_later : (x : Entry) (xs ys : List Entry) (e : Entry) (i : Item) → IsTrue (entries_have (xs ++ ys) i) ⊎ IsTrue (entry_has e i) → IsTrue (entries_have (x ∷ (xs ++ ys)) i) ⊎ IsTrue (entry_has e i)
inserted_later x xs ys e i (inl h) = inl (or_right _ _ h)
inserted_later x xs ys e i (inr h) = inr h

inserted_cases : (x : Entry) (xs ys : List Entry) (e : Entry) (i : Item) → (IsTrue (entries_have (xs ++ e ∷ ys) i) → IsTrue (entries_have (xs ++ ys) i) ⊎ IsTrue (entry_has e i))
    → (entry_has x i ≡ true) ⊎ (entries_have (xs ++ e ∷ ys) i ≡ true) → IsTrue (entries_have (x ∷ (xs ++ ys)) i) ⊎ IsTrue (entry_has e i)
inserted_cases x xs ys e i go (inl h) = inl (or_left _ _ h)
inserted_cases x xs ys e i go (inr h) = inserted_later x xs ys e i (go h)

have_inserted : (xs ys : List Entry) (e : Entry) (i : Item) → IsTrue (entries_have (xs ++ e ∷ ys) i) → IsTrue (entries_have (xs ++ ys) i) ⊎ IsTrue (entry_has e i)
have_inserted [] ys e i h = swapped (or_cases _ _ h)
have_inserted (x ∷ xs) ys e i h = inserted_cases x xs ys e i (λ k. have_inserted xs ys e i k) (or_cases _ _ h)

kept_cases : (x : Entry) (xs ys : List Entry) (e : Entry) (i : Item) → (IsTrue (entries_have (xs ++ ys) i) → IsTrue (entries_have (xs ++ e ∷ ys) i))
    → (entry_has x i ≡ true) ⊎ (entries_have (xs ++ ys) i ≡ true) → IsTrue (entries_have (x ∷ (xs ++ e ∷ ys)) i)
kept_cases x xs ys e i go (inl h) = or_left _ _ h
kept_cases x xs ys e i go (inr h) = or_right _ _ (go h)

have_kept : (xs ys : List Entry) (e : Entry) (i : Item) → IsTrue (entries_have (xs ++ ys) i) → IsTrue (entries_have (xs ++ e ∷ ys) i)
have_kept [] ys e i h = or_right _ _ h
have_kept (x ∷ xs) ys e i h = kept_cases x xs ys e i (λ k. have_kept xs ys e i k) (or_cases _ _ h)

have_new : (xs ys : List Entry) (e : Entry) (i : Item) → IsTrue (entry_has e i) → IsTrue (entries_have (xs ++ e ∷ ys) i)
have_new [] ys e i h = or_left _ _ h
have_new (x ∷ xs) ys e i h = or_right _ _ (have_new xs ys e i h)

-- ---- a set has a token, or none

some_token : (n : ℕ) (words : List ℕ) → ((a : ℕ) × IsTrue (has_token words a)) ⊎ ((a : ℕ) → a < n → has_token words a ≡ false)
some_token zero words = inr (λ a less. absurd (omega arith))
some_token (suc n) words = cases (cases_Bool (has_token words n)) (some_token n words)
  where
    cases : (has_token words n ≡ true) ⊎ (has_token words n ≡ false) → ((a : ℕ) × IsTrue (has_token words a)) ⊎ ((a : ℕ) → a < n → has_token words a ≡ false) → ((a : ℕ) × IsTrue (has_token words a)) ⊎ ((a : ℕ) → a < suc n → has_token words a ≡ false)
    cases (inl h) k = inl (n, h)
    cases (inr h) (inl k) = inl k
    cases (inr h) (inr k) = inr (λ a less. elim (cases_eq a n) [ inl e ↦ ap (has_token words) e ∙ h | inr ne ↦ k a (omega arith) ])

pub token_of : (words : List ℕ) → IsTokenSet words → (((a : ℕ) → has_token words a ≡ false) → ⊥) → (a : ℕ) × IsTrue (has_token words a)
token_of words is some = cases (some_token 256 words)
  where
    cases : ((a : ℕ) × IsTrue (has_token words a)) ⊎ ((a : ℕ) → a < 256 → has_token words a ≡ false) → (a : ℕ) × IsTrue (has_token words a)
    cases (inl h) = h
    cases (inr none) = absurd (some (λ a. elim (cases_lt a 256) [ inl less ↦ none a less | inr past ↦ past_words words a is.four past ]))

-- ---- the rule of a left side

pub rule_with_left : (g : Grammar) (r n : ℕ) → option_map (λ (rule : Rule). rule.0) (slice_get g.rules r) ≡ Some n → (right : List Sym) × IsRule g.rules r n right
rule_with_left g r n h = cases (slice_get g.rules r) refl h
  where
    cases : (o : Option Rule) → slice_get g.rules r ≡ o → option_map (λ (rule : Rule). rule.0) o ≡ Some n → (right : List Sym) × IsRule g.rules r n right
    cases None at e = absurd (none-some _ e)
    cases (Some (l, right)) at e = (right, record { found = subst (λ k. slice_get g.rules r ≡ Some (k, right)) (same_Some _ _ e) at })

-- ---- laying out

module _ (g : Grammar) (kernel : List Entry) (aheads : List (List ℕ)) (r next n : ℕ) (right : List Sym) (ahead : List ℕ) (entries : List Entry)
    (laid : IsLaid g kernel aheads r r next entries) (is_kernel : IsKernel g kernel) (rule : IsRule g.rules r n right) (set : IsTokenSet ahead) (is : ahead ≡ get_or aheads n []) where
  opened_by : (i : Item) → IsTrue (entry_has (front_entry r ahead) i) → IsOpenedItem g aheads i
  opened_by i h =
      let parts = entry_parts (front_entry r ahead) i h in
      record { name = n; right = right; rule = subst (λ k. IsRule g.rules k n right) parts.0 rule; front = sym parts.1; has = ap (λ t. has_token t i.ahead) (sym is) ∙ parts.2 }

  has_opened : (i : Item) → i.rule ≡ r → IsOpenedItem g aheads i → IsTrue (has_token ahead i.ahead)
  has_opened i e o =
      let same = (rule_once (subst (λ k. IsRule g.rules k o.name o.right) e o.rule) rule).0 in
      ap (λ t. has_token t i.ahead) (is ∙ ap (λ k. get_or aheads k []) (sym same)) ∙ o.has

  rule_less : r < length g.rules
  rule_less = slice_get_within g.rules r (n, right) rule.found

  moved_dot : (e : Entry) → r ≡ e.rule → (0 < e.dot) ⊎ (e.rule ≡ length g.rules) → 0 < e.dot
  moved_dot e same (inl h) = h
  moved_dot e same (inr h) = let less = rule_less in absurd (omega arith)

  after_front : (e : Entry) → r ≤ e.rule → (0 < e.dot) ⊎ (e.rule ≡ length g.rules) → IsEntryBefore (front_entry r ahead) e
  after_front e le moved = elim (cases_lt r e.rule) [
    | inl less ↦ inl less
    | inr more ↦ (let same : r ≡ e.rule = omega arith in inr (same, moved_dot e same moved))
  ]

  rest_moved : All (λ (e : Entry). (0 < e.dot) ⊎ (e.rule ≡ length g.rules)) (drop next kernel)
  rest_moved = All-drop (λ (e : Entry). (0 < e.dot) ⊎ (e.rule ≡ length g.rules)) next kernel is_kernel.moved

  all_after : All (IsEntryBefore (front_entry r ahead)) (drop next kernel)
  all_after = λ k d less. after_front (get_or (drop next kernel) k d) (laid.above k d less) (rest_moved k d less)

  all_before : All (λ e. IsEntryBefore e (front_entry r ahead)) entries
  all_before = All-weaker (λ (e : Entry). e.rule < r) (λ e. IsEntryBefore e (front_entry r ahead)) (λ e less. inl less) entries laid.below

  below_next : All (λ (e : Entry). e.rule < suc r) entries
  below_next = All-weaker (λ (e : Entry). e.rule < r) (λ (e : Entry). e.rule < suc r) (λ e less. omega arith) entries laid.below

  opened_cases : (i : Item) → i.rule < suc r → IsOpenedItem g aheads i → ((i.rule ≡ r) → IsTrue (entries_have (entries ++ drop next kernel) i)) → IsTrue (entries_have (entries ++ drop next kernel) i)
  opened_cases i less o here = elim (cases_eq i.rule r) [
    | inl e ↦ here e
    | inr ne ↦ laid.opened i (omega arith) o
  ]

  laid_without : ((a : ℕ) → has_token ahead a ≡ false) → IsLaid g kernel aheads (suc r) r next entries
  laid_without none = record {
    within = laid.within;
    whole = laid.whole;
    old = laid.old;
    opened = λ i less o. opened_cases i less o (λ e. absurd (false≢true (sym (none i.ahead) ∙ has_opened i e o)));
    only = laid.only;
    below = below_next;
    above = laid.above;
  }

  front_is : (a : ℕ) → IsTrue (has_token ahead a) → IsEntry g (front_entry r ahead)
  front_is a has = record { name = n; right = right; rule = own_rule g rule; dot = omega arith; set = set; ahead = a; has = has }

  joined_again : (entries ++ front_entry r ahead ∷ []) ++ drop next kernel ≡ entries ++ (front_entry r ahead ∷ drop next kernel)
  joined_again = append_assoc entries (front_entry r ahead ∷ []) (drop next kernel)

  only_cases : (i : Item) → IsTrue (entries_have (entries ++ drop next kernel) i) ⊎ IsTrue (entry_has (front_entry r ahead) i) → IsTrue (entries_have kernel i) ⊎ IsOpenedItem g aheads i
  only_cases i (inl h) = laid.only i h
  only_cases i (inr h) = inr (opened_by i h)

  abbrev Now : List Entry → Item → Type 0
  Now es i = IsTrue (entries_have es i)

  opened_now : (i : Item) → i.rule < suc r → IsOpenedItem g aheads i → Now (entries ++ (front_entry r ahead ∷ drop next kernel)) i
  opened_now i less o = elim (cases_eq i.rule r) [
    | inl e ↦ have_new entries (drop next kernel) (front_entry r ahead) i (entry_from (front_entry r ahead) i (sym e) (sym o.front) (has_opened i e o))
    | inr ne ↦ have_kept entries (drop next kernel) (front_entry r ahead) i (laid.opened i (omega arith) o)
  ]

  laid_with : (a : ℕ) → IsTrue (has_token ahead a) → IsLaid g kernel aheads (suc r) r next (entries ++ front_entry r ahead ∷ [])
  laid_with a has = record {
    within = laid.within;
    whole = subst (λ (es : List Entry). AreEntries g es) (sym joined_again) (record {
      rising = pairs_of _ (rising_insert entries (drop next kernel) (front_entry r ahead) (rising_of _ laid.whole.rising) all_before all_after);
      each = all_insert (IsEntry g) entries (drop next kernel) (front_entry r ahead) laid.whole.each (front_is a has);
    });
    old = λ i h. subst (λ (es : List Entry). Now es i) (sym joined_again) (have_kept entries (drop next kernel) (front_entry r ahead) i (laid.old i h));
    opened = λ i less o. subst (λ (es : List Entry). Now es i) (sym joined_again) (opened_now i less o);
    only = λ i h. only_cases i (have_inserted entries (drop next kernel) (front_entry r ahead) i (subst (λ (es : List Entry). Now es i) joined_again h));
    below = All-push (λ (e : Entry). e.rule < suc r) entries (front_entry r ahead) below_next (omega arith);
    above = laid.above;
  }

  -- the entry in front of the rule
  pub laid_front : (new : List Entry) → IsFrontLaid r ahead entries new → IsLaid g kernel aheads (suc r) r next new
  laid_front new (inl h) = subst (λ (es : List Entry). IsLaid g kernel aheads (suc r) r next es) (sym h.1) (laid_with h.0.0 h.0.1)
  laid_front new (inr h) = subst (λ (es : List Entry). IsLaid g kernel aheads (suc r) r next es) (sym h.1) (laid_without h.0)

-- the kernel's entries of the rule
module _ (g : Grammar) (kernel : List Entry) (aheads : List (List ℕ)) (r at : ℕ) (entries : List Entry) (next : ℕ) (new : List Entry)
    (laid : IsLaid g kernel aheads (suc r) r at entries) (moved : IsMovedLaid r kernel at entries next new) (rising : AllPairs IsEntryBefore kernel) where
  rule_later : (d e : Entry) → IsEntryBefore d e → d.rule ≤ e.rule
  rule_later d e (inl less) = omega arith
  rule_later d e (inr h) = let same = h.0 in omega arith

  from_at : (k : ℕ) (d : Entry) → next + k < length kernel → r ≤ (get_or kernel (next + k) d).rule
  from_at k d less =
      let on = moved.on in
      let place : at + (next + k - at) ≡ next + k = omega arith in
      subst (λ j. r ≤ (get_or kernel j d).rule) place (subst (λ (e : Entry). r ≤ e.rule) (get_or-drop at kernel (next + k - at) d) (laid.above (next + k - at) d (omega (arith, length-drop at kernel))))

  first_above : (d : Entry) → next < length kernel → suc r ≤ (get_or kernel next d).rule
  first_above d less =
      let ne = moved.other d less in
      let same : next + 0 ≡ next = omega arith in
      let le : r ≤ (get_or kernel next d).rule = subst (λ j. r ≤ (get_or kernel j d).rule) same (from_at 0 d (omega arith)) in
      omega arith

  later_above : (k : ℕ) (d : Entry) → next + k < length kernel → suc r ≤ (get_or kernel (next + k) d).rule
  later_above zero d less = let same : next ≡ next + 0 = omega arith in subst (λ j. suc r ≤ (get_or kernel j d).rule) same (first_above d (omega arith))
  later_above (suc k) d less =
      let first = first_above d (omega arith) in
      let later = rule_later (get_or kernel next d) (get_or kernel (next + suc k) d) (rising next (next + suc k) d (omega arith) less) in
      omega arith

  pub laid_moved : IsLaid g kernel aheads (suc r) (suc r) next new
  laid_moved = record {
    within = moved.within;
    whole = subst (λ (es : List Entry). AreEntries g es) (sym moved.same) laid.whole;
    old = λ i h. subst (λ (es : List Entry). IsTrue (entries_have es i)) (sym moved.same) (laid.old i h);
    opened = λ i less o. subst (λ (es : List Entry). IsTrue (entries_have es i)) (sym moved.same) (laid.opened i less o);
    only = λ i h. laid.only i (subst (λ (es : List Entry). IsTrue (entries_have es i)) moved.same h);
    below = moved.below laid.below;
    above = λ k d less. subst (λ (e : Entry). suc r ≤ e.rule) (sym (get_or-drop next kernel k d)) (later_above k d (omega (arith, length-drop next kernel)));
  }

-- after the last rule what is left of the kernel is put last
pub laid_end : (g : Grammar) (kernel : List Entry) (aheads : List (List ℕ)) (next : ℕ) (entries new : List Entry) → IsLaid g kernel aheads (length g.rules) (length g.rules) next entries → new ≡ entries ++ drop next kernel → IsLaidOut g kernel aheads new
laid_end g kernel aheads next entries new laid e = subst (λ (es : List Entry). IsLaidOut g kernel aheads es) (sym e) (record {
  are = laid.whole;
  old = laid.old;
  opened = λ i o. laid.opened i (slice_get_within g.rules i.rule (o.name, o.right) o.rule.found) o;
  only = laid.only;
})

module _ (g : Grammar) (rows fronts : List (List Spot)) (setting : IsSetting g rows fronts) (kernel : List Entry) (aheads : List (List ℕ)) (entries : List Entry)
    (closing : IsClosing g kernel kernel aheads []) (out : IsLaidOut g kernel aheads entries) where
  have_known : (i : Item) → IsTrue (entries_have kernel i) ⊎ IsOpenedItem g aheads i → IsTrue (entries_have entries i)
  have_known i (inl h) = out.old i h
  have_known i (inr o) = out.opened i o

  pub closure_of : IsClosureOf g kernel entries
  closure_of = record {
    are = out.are;
    have = λ i.
        let known = closure_known g rows fronts setting kernel aheads closing i in
        (λ h. known.1 (out.only i h), λ c. have_known i (known.0 c));
  }
