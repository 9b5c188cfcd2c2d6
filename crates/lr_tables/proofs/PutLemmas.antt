-- Actions that are put on some tokens of a state.
use Rattle.std.proofs.Common.{◌≡◌, ◌≢◌, ℕ, ◌+◌, ◌<◌, ◌≤◌, ◌⊎◌, inl, inr, Bool, true, false, ◌&&◌, IsTrue, List, Option, Some, None, refl, sym, ap, subst, ◌∙◌, arith}
use Rattle.std.proofs.lemmas.Bool.{cases_order, cases_lt, eq-eqb, ne_eqb, eqb-true, lt-ltb, le-ltb, false≢true}
use Rattle.std.proofs.lemmas.Option.{same_Some}
use Rattle.grammar_data.specs.declared.rule.Sym.{Sym}
use Rattle.grammar_data.specs.declared.rule.Sym.TheVariants.{Token}
use Rattle.grammar_data.specs.Grammar.{Grammar}
use Rattle.grammar_data.specs.TokenSet.{has_token}
use Rattle.grammar_theory.specs.Rules.{IsInRange, end_mark}
use Rattle.item_theory.specs.Items.{Item, Deed, Does, shifts, reduces, accepts, Shift as to_shift, Reduce as to_reduce, Accept as to_accept}
use Rattle.item_theory.specs.Chains.{moves}
use Rattle.item_theory.specs.Collections.{IsStateOf}
use Rattle.collection_data.specs.declared.entry.Entry.{Entry}
use Rattle.collection_data.specs.Entries.{IsEntry}
use Rattle.collection_data.specs.Collection.{CollectionParts, IsCollectionOf, has_item, state_count, step_in}
use Rattle.collection_data.proofs.EntryLemmas.{entry_parts}
use Rattle.collection_data.proofs.TableLaws.{no_step_law}
use Rattle.table_data.specs.declared.act.Act.{Act}
use Rattle.table_data.specs.declared.act.Act.TheVariants.{Shift, Reduce, Accept, Error}
use Rattle.table_data.specs.Tables.{Tables, act_in}
use Rattle.table_theory.specs.Deeds.{HasDeed}
use Rattle.table_theory.specs.Clashes.{ItemsOf}
use Rattle.table_theory.specs.Canonical.{deed_of}
use Rattle.table_theory.proofs.ClashLemmas.{word_of, state_of}
use Rattle.lr_tables.specs.declared.deed.EntryDeed.TheVariants.{Shift as shift_deed, Reduce as reduce_deed, Accept as accept_deed}
use Rattle.lr_tables.specs.EntryDeeds.{HasItem, IsDeedOf}
use Rattle.lr_tables.specs.Filling.{IsTaken, IsPut, only, below, AreReducesPut, IsReduceTaken, AreShiftsSteps, IsEntryPut, IsInTheWay}
use Rattle.lr_tables.proofs.EntryDeedLemmas.{done_of, deed_shift, deed_reduce, deed_accept}

none_some : {X : Type 0} {x : X} → ◌≡◌ {A = Option X} None (Some x) → ⊥
none_some e = cc

-- ---- steps of a collection

-- a step leads to a state
pub step_within : (g : Grammar) (c : CollectionParts) → IsCollectionOf g c → (q p : ℕ) (x : Sym) → q < state_count c → step_in c q x ≡ Some p → p < state_count c
step_within g c is q p x less step = within ((is.collection.steps q p _ x (word_of g (state_count c) (has_item c) (step_in c) is.collection q less)).0 step)
  where
    within : {xs : List Sym} → IsStateOf g is.collection.words p xs → p < state_count c
    within (ys, at, same) = state_of g (state_count c) (has_item c) (step_in c) is.collection p ys at

-- there is a step where an item shifts
pub some_step : (g : Grammar) (c : CollectionParts) → IsInRange g → IsCollectionOf g c → (q a : ℕ) → q < state_count c → HasDeed g (ItemsOf (has_item c) q) a to_shift → step_in c q (Token a) ≡ None → ⊥
some_step g c range is q a less (i, has, does) none = by_deed to_shift refl does
  where
    by_deed : (deed : Deed) → deed ≡ to_shift → Does g i a deed → ⊥
    by_deed deed shift (shifts {n = n} {before = before} {after = after} d) = (no_step_law g range c is q (Token a) less).0 none i (record i { dot = i.dot + 1 }) has (moves n before after d refl)
    by_deed deed shift (reduces d own at same) = absurd (let e : to_shift ≡ to_reduce i.rule = sym shift ∙ same in cc)
    by_deed deed shift (accepts d last end) = absurd (cc)

-- ---- tests of tokens

below_in : (n : ℕ) (tokens : List ℕ) (a : ℕ) → a < n → below n tokens a ≡ has_token tokens a
below_in n tokens a less = ap (λ c. c && has_token tokens a) (lt-ltb a n less)

below_out : (n : ℕ) (tokens : List ℕ) (a : ℕ) → n ≤ a → below n tokens a ≡ false
below_out n tokens a past = ap (λ c. c && has_token tokens a) (le-ltb a n past)

below_parts : (n : ℕ) (tokens : List ℕ) (a : ℕ) → below n tokens a ≡ true → (a < n) × IsTrue (has_token tokens a)
below_parts n tokens a on = cases (cases_lt a n)
  where
    cases : (a < n) ⊎ (n ≤ a) → (a < n) × IsTrue (has_token tokens a)
    cases (inl less) = (less, sym (below_in n tokens a less) ∙ on)
    cases (inr past) = absurd (false≢true (sym (below_out n tokens a past) ∙ on))

-- ---- reductions on more and more tokens

-- the same tokens
put_same : (on off : ℕ → Bool) (q : ℕ) (act : Act) (old new : Tables) → ((a : ℕ) → on a ≡ off a) → IsPut on q act old new → IsPut off q act old new
put_same on off q act old new same put = record {
  has = λ a is. put.has a (same a ∙ is);
  free = λ a is. put.free a (same a ∙ is);
  others = λ p a apart. put.others p a (either p a apart);
  rest = put.rest;
}
  where
    either : (p a : ℕ) → (p ≢ q) ⊎ (off a ≡ false) → (p ≢ q) ⊎ (on a ≡ false)
    either p a (inl apart) = inl apart
    either p a (inr not) = inr (same a ∙ not)

pub put_skip : (k : ℕ) (tokens : List ℕ) (q : ℕ) (act : Act) (old new : Tables) → has_token tokens k ≡ false → IsPut (below k tokens) q act old new → IsPut (below (k + 1) tokens) q act old new
put_skip k tokens q act old new not put = put_same (below k tokens) (below (k + 1) tokens) q act old new (λ a. cases a (cases_order a k)) put
  where
    cases : (a : ℕ) → (a ≡ k) ⊎ ((a < k) ⊎ (k < a)) → below k tokens a ≡ below (k + 1) tokens a
    cases a (inl same) = below_out k tokens a (omega arith) ∙ sym (below_in (k + 1) tokens a (omega arith) ∙ ap (has_token tokens) same ∙ not)
    cases a (inr (inl less)) = below_in k tokens a less ∙ sym (below_in (k + 1) tokens a (omega arith))
    cases a (inr (inr past)) = below_out k tokens a (omega arith) ∙ sym (below_out (k + 1) tokens a (omega arith))

module _ (k : ℕ) (tokens : List ℕ) (q : ℕ) (act : Act) (old mid new : Tables) (before : IsPut (below k tokens) q act old mid) where
  -- what stood on the next token stood there from the beginning
  kept_here : act_in mid q k ≡ act_in old q k
  kept_here = before.others q k (inr (below_out k tokens k (omega arith)))

  module _ (has_it : IsTrue (has_token tokens k)) (put : IsPut (only k) q act mid new) where
    put_has : (a : ℕ) → (a ≡ k) ⊎ ((a < k) ⊎ (k < a)) → below (k + 1) tokens a ≡ true → act_in new q a ≡ act
    put_has a (inl same) on = put.has a (eq-eqb a k same)
    put_has a (inr (inl less)) on = put.others q a (inr (ne_eqb a k (λ same. absurd (omega arith)))) ∙ before.has a (below_in k tokens a less ∙ sym (below_in (k + 1) tokens a (omega arith)) ∙ on)
    put_has a (inr (inr past)) on = absurd (false≢true (sym (below_out (k + 1) tokens a (omega arith)) ∙ on))

    put_free : (a : ℕ) → (a ≡ k) ⊎ ((a < k) ⊎ (k < a)) → below (k + 1) tokens a ≡ true → (act_in old q a ≡ Error) ⊎ (act_in old q a ≡ act)
    put_free a (inl same) on = subst (λ b. (act_in old q b ≡ Error) ⊎ (act_in old q b ≡ act)) (sym same) (was (put.free k (eq-eqb k k refl)))
      where
        was : (act_in mid q k ≡ Error) ⊎ (act_in mid q k ≡ act) → (act_in old q k ≡ Error) ⊎ (act_in old q k ≡ act)
        was (inl error) = inl (sym kept_here ∙ error)
        was (inr is) = inr (sym kept_here ∙ is)
    put_free a (inr (inl less)) on = before.free a (below_in k tokens a less ∙ sym (below_in (k + 1) tokens a (omega arith)) ∙ on)
    put_free a (inr (inr past)) on = absurd (false≢true (sym (below_out (k + 1) tokens a (omega arith)) ∙ on))

    put_others : (p a : ℕ) → (p ≢ q) ⊎ (below (k + 1) tokens a ≡ false) → act_in new p a ≡ act_in old p a
    put_others p a (inl apart) = put.others p a (inl apart) ∙ before.others p a (inl apart)
    put_others p a (inr not) = cases (cases_order a k)
      where
        cases : (a ≡ k) ⊎ ((a < k) ⊎ (k < a)) → act_in new p a ≡ act_in old p a
        cases (inl same) = absurd (false≢true (sym not ∙ below_in (k + 1) tokens a (omega arith) ∙ ap (has_token tokens) same ∙ has_it))
        cases (inr (inl less)) = put.others p a (inr (ne_eqb a k (λ same. absurd (omega arith)))) ∙ before.others p a (inr (below_in k tokens a less ∙ sym (below_in (k + 1) tokens a (omega arith)) ∙ not))
        cases (inr (inr past)) = put.others p a (inr (ne_eqb a k (λ same. absurd (omega arith)))) ∙ before.others p a (inr (below_out k tokens a (omega arith)))

    pub put_next : IsPut (below (k + 1) tokens) q act old new
    put_next = record {
      has = λ a on. put_has a (cases_order a k) on;
      free = λ a on. put_free a (cases_order a k) on;
      others = put_others;
      rest = put.rest ∙ ap (λ (t : Tables). record t { acts = new.acts }) before.rest;
    }

-- ---- what is in the way

-- another action is another deed, if a shift there goes along the same step
taken_differs : (act old : Act) (deed : Deed) → deed_of act ≡ Some deed → ((p r : ℕ) → act ≡ Shift p → old ≡ Shift r → r ≡ p) → IsTaken act old → (first : Deed) × (deed_of old ≡ Some first) × (first ≢ deed)
taken_differs act (Shift r) deed is targets (some, other) = (to_shift, refl, λ same. by_act act is targets other same)
  where
    by_act : (x : Act) → deed_of x ≡ Some deed → ((p s : ℕ) → x ≡ Shift p → Shift r ≡ Shift s → s ≡ p) → (Shift r ≢ x) → to_shift ≡ deed → ⊥
    by_act (Shift p) does to differs same = differs (ap Shift (to p r refl refl))
    by_act (Reduce s) does to differs same = cc
    by_act Accept does to differs same = cc
    by_act Error does to differs same = cc
taken_differs act (Reduce s) deed is targets (some, other) = (to_reduce s, refl, λ same. by_act act is other same)
  where
    by_act : (x : Act) → deed_of x ≡ Some deed → (Reduce s ≢ x) → to_reduce s ≡ deed → ⊥
    by_act (Shift p) does differs same = cc
    by_act (Reduce r) does differs same = let e : s ≡ r = cc in differs (ap Reduce e)
    by_act Accept does differs same = cc
    by_act Error does differs same = cc
taken_differs act Accept deed is targets (some, other) = (to_accept, refl, λ same. by_act act is other same)
  where
    by_act : (x : Act) → deed_of x ≡ Some deed → (Accept ≢ x) → to_accept ≡ deed → ⊥
    by_act (Shift p) does differs same = cc
    by_act (Reduce s) does differs same = cc
    by_act Accept does differs same = differs refl
    by_act Error does differs same = cc
taken_differs act Error deed is targets (some, other) = absurd (some refl)

module _ (g : Grammar) (c : CollectionParts) (e : Entry) (q : ℕ) (old : Tables) (steps : AreShiftsSteps c q old) where
  in_the_way : (act : Act) (deed : Deed) (a : ℕ) → a ≤ end_mark g → deed_of act ≡ Some deed → HasDeed g (HasItem e) a deed → ((p : ℕ) → act ≡ Shift p → step_in c q (Token a) ≡ Some p) → IsTaken act (act_in old q a) → IsInTheWay g e q old
  in_the_way act deed a small is does target taken =
      let first = taken_differs act (act_in old q a) deed is (λ p r here there. same_Some r p (sym (steps a r there) ∙ target p here)) taken in
      (a, small, first.0, deed, first.1, does, first.2)

  pub shift_in_the_way : (b p : ℕ) → b ≤ end_mark g → IsEntry g e → IsDeedOf g e (shift_deed b) → step_in c q (Token b) ≡ Some p → IsTaken (Shift p) (act_in old q b) → IsInTheWay g e q old
  shift_in_the_way b p small entry is step taken = in_the_way (Shift p) to_shift b small refl (deed_shift g e b entry is) (λ r same. let one : p ≡ r = cc in step ∙ ap Some one) taken

  pub reduce_in_the_way : (r bound : ℕ) → bound ≡ end_mark g + 1 → IsDeedOf g e (reduce_deed r) → IsReduceTaken bound e.ahead q r old → IsInTheWay g e q old
  reduce_in_the_way r bound same is (a, less, has, taken) = in_the_way (Reduce r) (to_reduce r) a (omega arith) refl (deed_reduce g e r is a has) (λ p e. absurd (cc)) taken

  pub accept_in_the_way : (b : ℕ) → b ≡ end_mark g → IsEntry g e → IsDeedOf g e accept_deed → IsTaken Accept (act_in old q b) → IsInTheWay g e q old
  accept_in_the_way b same entry is taken = in_the_way Accept to_accept b (omega arith) refl (subst (λ k. HasDeed g (HasItem e) k to_accept) (sym same) (deed_accept g e entry is)) (λ p e. absurd (cc)) taken

  -- ---- an entry

  module _ (new : Tables) (on : ℕ → Bool) (act : Act) (deed : Deed) (is : deed_of act ≡ Some deed) (put : IsPut on q act old new)
      (does : (a : ℕ) → on a ≡ true → HasDeed g (HasItem e) a deed)
      (all : (a : ℕ) (other : Deed) → a ≤ end_mark g → HasDeed g (HasItem e) a other → (on a ≡ true) × (other ≡ deed))
      (target : (a p : ℕ) → on a ≡ true → act ≡ Shift p → step_in c q (Token a) ≡ Some p) where
    bool_cases : (b : Bool) → (b ≡ true) ⊎ (b ≡ false)
    bool_cases true = inl refl
    bool_cases false = inr refl

    put_kept : (a : ℕ) (d : Deed) → (on a ≡ true) ⊎ (on a ≡ false) → deed_of (act_in old q a) ≡ Some d → deed_of (act_in new q a) ≡ Some d
    put_kept a d (inl here) was = cases (put.free a here)
      where
        cases : (act_in old q a ≡ Error) ⊎ (act_in old q a ≡ act) → deed_of (act_in new q a) ≡ Some d
        cases (inl error) = absurd (none_some (sym (ap deed_of error) ∙ was))
        cases (inr same) = ap deed_of (put.has a here ∙ sym same) ∙ was
    put_kept a d (inr away) was = ap deed_of (put.others q a (inr away)) ∙ was

    put_from : (a : ℕ) (d : Deed) → (on a ≡ true) ⊎ (on a ≡ false) → deed_of (act_in new q a) ≡ Some d → (deed_of (act_in old q a) ≡ Some d) ⊎ HasDeed g (HasItem e) a d
    put_from a d (inl here) now =
        let one : deed ≡ d = same_Some deed d (sym is ∙ sym (ap deed_of (put.has a here)) ∙ now) in
        inr (subst (λ k. HasDeed g (HasItem e) a k) one (does a here))
    put_from a d (inr away) now = inl (sym (ap deed_of (put.others q a (inr away))) ∙ now)

    put_shifts : (a p : ℕ) → (on a ≡ true) ⊎ (on a ≡ false) → act_in new q a ≡ Shift p → step_in c q (Token a) ≡ Some p
    put_shifts a p (inl here) now = target a p here (sym (put.has a here) ∙ now)
    put_shifts a p (inr away) now = steps a p (sym (put.others q a (inr away)) ∙ now)

    entry_put : IsEntryPut g c e q old new
    entry_put = record {
      has = λ a other small has. let h = all a other small has in ap deed_of (put.has a h.0) ∙ is ∙ ap Some (sym h.1);
      kept = λ a d was. put_kept a d (bool_cases (on a)) was;
      from = λ a d now. put_from a d (bool_cases (on a)) now;
      shifts = λ a p now. put_shifts a p (bool_cases (on a)) now;
      others = λ p a apart. put.others p a (inl apart);
      rest = put.rest;
    }

  pub shift_put : (new : Tables) (b p : ℕ) → IsEntry g e → IsDeedOf g e (shift_deed b) → step_in c q (Token b) ≡ Some p → IsPut (only b) q (Shift p) old new → IsEntryPut g c e q old new
  shift_put new b p entry is step put = entry_put new (only b) (Shift p) to_shift refl put
      (λ a on. subst (λ k. HasDeed g (HasItem e) k to_shift) (sym (eqb-true a b on)) (deed_shift g e b entry is))
      (λ a other small has. let done = done_of g e (shift_deed b) is a other has in (eq-eqb a b done.2.0, done.2.1))
      (λ a r on same. let one : p ≡ r = cc in ap (λ k. step_in c q (Token k)) (eqb-true a b on) ∙ step ∙ ap Some one)

  pub reduce_put : (new : Tables) (r bound : ℕ) → bound ≡ end_mark g + 1 → IsDeedOf g e (reduce_deed r) → AreReducesPut bound e.ahead q r old new → IsEntryPut g c e q old new
  reduce_put new r bound same is put = entry_put new (below bound e.ahead) (Reduce r) (to_reduce r) refl put
      (λ a on. deed_reduce g e r is a (below_parts bound e.ahead a on).1)
      (λ a other small has. let done = done_of g e (reduce_deed r) is a other has in
      (below_in bound e.ahead a (omega arith) ∙ ap (has_token e.ahead) (sym done.2.0) ∙ ahead_in done.0 done.1, done.2.1))
      (λ a p on e. absurd (cc))
    where
      ahead_in : (i : Item) → HasItem e i → IsTrue (has_token e.ahead i.ahead)
      ahead_in i has = (entry_parts e i has).2

  pub accept_put : (new : Tables) (b : ℕ) → b ≡ end_mark g → IsEntry g e → IsDeedOf g e accept_deed → IsPut (only b) q Accept old new → IsEntryPut g c e q old new
  accept_put new b same entry is put = entry_put new (only b) Accept to_accept refl put
      (λ a on. subst (λ k. HasDeed g (HasItem e) k to_accept) (sym same ∙ sym (eqb-true a b on)) (deed_accept g e entry is))
      (λ a other small has. let done = done_of g e accept_deed is a other has in (eq-eqb a b (done.2.0 ∙ sym same), done.2.1))
      (λ a p on e. absurd (cc))
