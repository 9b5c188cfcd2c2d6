-- Rows of tables, filled entry after entry and state after state.
use Rattle.std.proofs.Common.{◌≡◌, ◌≢◌, ℕ, ◌+◌, ◌<◌, ◌≤◌, ◌⊎◌, inl, inr, List, [], length, take, get_or, Option, Some, None, Result, Ok, Err, OnErr, sym, ap, subst, ◌∙◌, arith}
use Rattle.std.proofs.lemmas.Bool.{cases_order}
use Rattle.std.proofs.lemmas.List.{get_or-take, length-take-le}
use Rattle.std.proofs.lemmas.Option.{slice_get-get_or, same_Some}
use Rattle.grammar_data.specs.declared.rule.Sym.TheVariants.{Name}
use Rattle.grammar_data.specs.Grammar.{Grammar}
use Rattle.grammar_theory.specs.Rules.{IsInRange, end_mark}
use Rattle.item_theory.specs.Items.{Item, Deed, HasConflict}
use Rattle.collection_data.specs.declared.entry.Entry.{Entry}
use Rattle.collection_data.specs.Entries.{AreEntries}
use Rattle.collection_data.specs.Collection.{CollectionParts, IsCollectionOf, has_item, items_in, state_count, step_in}
use Rattle.table_data.specs.Tables.{Tables, act_in, goto_in}
use Rattle.table_theory.specs.Deeds.{HasDeed}
use Rattle.table_theory.specs.Clashes.{HasClash, ItemsOf}
use Rattle.table_theory.specs.Canonical.{deed_of, IsCanonicalAct}
use Rattle.table_theory.specs.Conflicts.{IsFirstConflict}
use Rattle.table_theory.proofs.ClashLemmas.{word_of, first_clash_law}
use Rattle.table_theory.proofs.CanonicalLemmas.{does_within, no_conflict}
use Rattle.lr_machine.specs.IsTables.{AreBlank}
use Rattle.lr_tables.specs.EntryDeeds.{HasItem, HaveItem}
use Rattle.lr_tables.specs.Clashing.{IsClashOn}
use Rattle.lr_tables.specs.Filling.{IsSetting, IsEntryPut, IsInTheWay, IsRow, AreActsSet, AreGotosSet, IsFilledTo}
use Rattle.lr_tables.specs.Building.{AreTablesOf}
use Rattle.lr_tables.proofs.LeastLemmas.{at_place, have_here, have_before, have_more}

none_some : {X : Type 0} {x : X} → ◌≡◌ {A = Option X} None (Some x) → ⊥
none_some e = cc

-- what holds is said of each error
pub err_of : {T E P : Type 0} (r : Result T E) → P → OnErr r P
err_of (Ok x) p = tt
err_of (Err e) p = p

-- ---- the setting stays

pub setting_acts : (g : Grammar) (c : CollectionParts) (old new : Tables) → new ≡ record old { acts = new.acts } → IsSetting g c old → IsSetting g c new
setting_acts g c old new rest setting = record {
  range = setting.range;
  collection = setting.collection;
  states = ap (λ (t : Tables). t.states) rest ∙ setting.states;
  tokens = ap (λ (t : Tables). t.tokens) rest ∙ setting.tokens;
  names = ap (λ (t : Tables). t.names) rest ∙ setting.names;
  rules = ap (λ (t : Tables). t.rules) rest ∙ setting.rules;
}

pub setting_gotos : (g : Grammar) (c : CollectionParts) (old new : Tables) → new ≡ record old { gotos = new.gotos } → IsSetting g c old → IsSetting g c new
setting_gotos g c old new rest setting = record {
  range = setting.range;
  collection = setting.collection;
  states = ap (λ (t : Tables). t.states) rest ∙ setting.states;
  tokens = ap (λ (t : Tables). t.tokens) rest ∙ setting.tokens;
  names = ap (λ (t : Tables). t.names) rest ∙ setting.names;
  rules = ap (λ (t : Tables). t.rules) rest ∙ setting.rules;
}

-- ---- the entries of a state

pub entries_of : (g : Grammar) (c : CollectionParts) → IsCollectionOf g c → (q : ℕ) → q < state_count c → AreEntries g (items_in c q)
entries_of g c is q less = is.entries q (items_in c q) (slice_get-get_or c.states q [] less)

have_front : (es : List Entry) (k : ℕ) (i : Item) → k ≤ length es → HaveItem (take k es) i → HaveItem es i
have_front es k i within has = at (at_place (take k es) i has)
  where
    at : ((m : ℕ) × (d : Entry) × (m < length (take k es)) × (get_or (take k es) m d ≡ d) × HasItem d i) → HaveItem es i
    at (m, d, less, here, it) =
        let count = length-take-le k es within in
        let below : m < k = omega arith in
        have_here es m d i (omega arith) (sym here ∙ get_or-take k es m d below) it

-- ---- one row

module _ (g : Grammar) (c : CollectionParts) (es : List Entry) (q k : ℕ) (e : Entry) (less : k < length es) (here : e ≡ get_or es k e) (old : Tables) (row : IsRow g c (take k es) q old) where
  of_more : {a : ℕ} {deed : Deed} → HasDeed g (HaveItem (take (k + 1) es)) a deed → HasDeed g (HaveItem (take k es)) a deed ⊎ HasDeed g (HasItem e) a deed
  of_more {a = a} {deed = deed} (i, has, does) = cases (have_more es k e i less here has)
    where
      cases : HaveItem (take k es) i ⊎ HasItem e i → HasDeed g (HaveItem (take k es)) a deed ⊎ HasDeed g (HasItem e) a deed
      cases (inl h) = inl (i, h, does)
      cases (inr h) = inr (i, h, does)

  to_more : {a : ℕ} {deed : Deed} → HasDeed g (HaveItem (take k es)) a deed ⊎ HasDeed g (HasItem e) a deed → HasDeed g (HaveItem (take (k + 1) es)) a deed
  to_more (inl (i, has, does)) = (i, more_have i has, does)
    where
      more_have : (j : Item) → HaveItem (take k es) j → HaveItem (take (k + 1) es) j
      more_have j has = at (at_place (take k es) j has)
        where
          at : ((m : ℕ) × (d : Entry) × (m < length (take k es)) × (get_or (take k es) m d ≡ d) × HasItem d j) → HaveItem (take (k + 1) es) j
          at (m, d, within, there, it) =
              let count = length-take-le k es (omega arith) in
              let below : m < k = omega arith in
              have_before es (k + 1) m d j (omega arith) (omega arith) (sym (get_or-take k es m d below) ∙ there) it
  to_more (inr (i, has, does)) = (i, have_before es (k + 1) k e i (omega arith) (omega arith) (sym here) has, does)

  pub row_more : (new : Tables) → IsEntryPut g c e q old new → IsRow g c (take (k + 1) es) q new
  row_more new put = record {
    deeds = λ a deed small. (
      λ now. to_more (from a deed small (put.from a deed now)),
      λ has. by a deed small (of_more has),
    );
    shifts = put.shifts;
  }
    where
      from : (a : ℕ) (deed : Deed) → a ≤ end_mark g → (deed_of (act_in old q a) ≡ Some deed) ⊎ HasDeed g (HasItem e) a deed → HasDeed g (HaveItem (take k es)) a deed ⊎ HasDeed g (HasItem e) a deed
      from a deed small (inl was) = inl ((row.deeds a deed small).0 was)
      from a deed small (inr has) = inr has

      by : (a : ℕ) (deed : Deed) → a ≤ end_mark g → HasDeed g (HaveItem (take k es)) a deed ⊎ HasDeed g (HasItem e) a deed → deed_of (act_in new q a) ≡ Some deed
      by a deed small (inl has) = put.kept a deed ((row.deeds a deed small).1 has)
      by a deed small (inr has) = put.has a deed small has

  pub row_clash : IsInTheWay g e q old → (a : ℕ) × (a ≤ end_mark g) × HasClash g (HaveItem es) a
  row_clash (a, small, deed, other, was, (i, has, does), differ) = (a, small, (deed, other, front ((row.deeds a deed small).0 was), (i, have_here es k e i less here has, does), differ))
    where
      front : HasDeed g (HaveItem (take k es)) a deed → HasDeed g (HaveItem es) a deed
      front (j, has_it, does_it) = (j, have_front es k j (omega arith) has_it, does_it)

-- a whole row
pub row_acts : (g : Grammar) (c : CollectionParts) (q : ℕ) (t : Tables) → IsRow g c (items_in c q) q t → (a : ℕ) → a ≤ end_mark g → IsCanonicalAct g (has_item c) (step_in c) q a (act_in t q a)
row_acts g c q t row a small = record {
  deed = λ deed. row.deeds a deed small;
  target = λ p shift. row.shifts a p shift;
}

-- ---- row after row

pub filled_none : (g : Grammar) (c : CollectionParts) (t : Tables) → IsInRange g → IsCollectionOf g c → AreBlank g (state_count c) t → IsFilledTo g c 0 t
filled_none g c t range collection blank = record {
  setting = record {
    range = range;
    collection = collection;
    states = blank.states;
    tokens = blank.tokens;
    names = blank.names;
    rules = blank.rules;
  };
  acts = λ q a less small. absurd (omega arith);
  gotos = λ q n less small. absurd (omega arith);
  errors = λ q a past. blank.acts q a;
  empty = λ q n past. blank.gotos q n;
}

module _ (g : Grammar) (c : CollectionParts) (k : ℕ) (t : Tables) (filled : IsFilledTo g c k t) where
  module _ (mid new : Tables) (gotos : AreGotosSet g c k t mid) (acts : AreActsSet g c k mid new) where
    act_kept : (q a : ℕ) → q ≢ k → act_in new q a ≡ act_in t q a
    act_kept q a apart = acts.others q a apart ∙ ap (λ (s : Tables). act_in s q a) gotos.rest

    goto_mid : (q n : ℕ) → goto_in new q n ≡ goto_in mid q n
    goto_mid q n = ap (λ (s : Tables). goto_in s q n) acts.rest

    goto_kept : (q n : ℕ) → q ≢ k → goto_in new q n ≡ goto_in t q n
    goto_kept q n apart = goto_mid q n ∙ gotos.others q n apart

    acts_more : (q a : ℕ) → (q ≡ k) ⊎ ((q < k) ⊎ (k < q)) → q < k + 1 → a ≤ end_mark g → IsCanonicalAct g (has_item c) (step_in c) q a (act_in new q a)
    acts_more q a (inl same) less small = subst (λ p. IsCanonicalAct g (has_item c) (step_in c) p a (act_in new p a)) (sym same) (acts.acts a small)
    acts_more q a (inr (inl before)) less small = subst (IsCanonicalAct g (has_item c) (step_in c) q a) (sym (act_kept q a (λ same. absurd (omega arith)))) (filled.acts q a before small)
    acts_more q a (inr (inr after)) less small = absurd (omega arith)

    gotos_more : (q n : ℕ) → (q ≡ k) ⊎ ((q < k) ⊎ (k < q)) → q < k + 1 → n < g.names → goto_in new q n ≡ step_in c q (Name n)
    gotos_more q n (inl same) less small = subst (λ p. goto_in new p n ≡ step_in c p (Name n)) (sym same) (goto_mid k n ∙ gotos.gotos n small)
    gotos_more q n (inr (inl before)) less small = goto_kept q n (λ same. absurd (omega arith)) ∙ filled.gotos q n before small
    gotos_more q n (inr (inr after)) less small = absurd (omega arith)

    pub filled_more : IsFilledTo g c (k + 1) new
    filled_more = record {
      setting = setting_acts g c mid new acts.rest (setting_gotos g c t mid gotos.rest filled.setting);
      acts = λ q a less small. acts_more q a (cases_order q k) less small;
      gotos = λ q n less small. gotos_more q n (cases_order q k) less small;
      errors = λ q a past. act_kept q a (λ same. absurd (omega arith)) ∙ filled.errors q a (omega arith);
      empty = λ q n past. goto_kept q n (λ same. absurd (omega arith)) ∙ filled.empty q n (omega arith);
    }

  -- the rows so far have no clash
  pub no_clash_before : (p b : ℕ) → p < k → k ≤ state_count c → HasClash g (ItemsOf (has_item c) p) b → ⊥
  no_clash_before p b before within (deed, other, (first, has, does), (second, has_too, does_too), differ) =
      let collection = filled.setting.collection.collection in
      let word = word_of g (state_count c) (has_item c) (step_in c) collection p (omega arith) in
      let valid = (collection.items p _ word first).0 has in
      let act = filled.acts p b before (does_within g filled.setting.range _ first b deed valid does) in
      differ (same_Some deed other (sym ((act.deed deed).1 (first, has, does)) ∙ (act.deed other).1 (second, has_too, does_too)))

  -- the first clash of the next state is the grammar's first conflict
  pub first_conflict_at : (a : ℕ) (first second : Item) → k < state_count c → IsClashOn g (items_in c k) a first second → ((b : ℕ) → b < a → HasClash g (HaveItem (items_in c k)) b → ⊥) → IsFirstConflict g k a first second
  first_conflict_at a first second less clash least =
      (first_clash_law g (state_count c) (has_item c) (step_in c) filled.setting.collection.collection k a first second less).0 (record {
        deed = clash.deed;
        other = clash.other;
        first_has = clash.first_has;
        second_has = clash.second_has;
        first_does = clash.first_does;
        second_does = clash.second_does;
        differ = clash.differ;
        least_state = λ p b before h. no_clash_before p b before (omega arith) h;
        least_token = least;
        least_first = clash.least_first;
        least_second = clash.least_second;
      })

  pub tables_filled : k ≡ state_count c → AreTablesOf g c t
  tables_filled last = record {
    count = filled.setting.states;
    tokens = filled.setting.tokens;
    names = filled.setting.names;
    rules = filled.setting.rules;
    acts = λ q a less small. filled.acts q a (omega arith) small;
    gotos = λ q n less small. filled.gotos q n (omega arith) small;
  }

  pub free_of_conflicts : k ≡ state_count c → HasConflict g → ⊥
  free_of_conflicts last = no_conflict g filled.setting.range (state_count c) (has_item c) (step_in c) t filled.setting.collection.collection (tables_filled last)
