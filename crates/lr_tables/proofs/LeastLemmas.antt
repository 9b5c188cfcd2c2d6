-- The least items of some entries that act on a token, and that do something else on it.
use Rattle.std.proofs.Common.{IfSome, ◌≡◌, ◌≢◌, ℕ, ◌+◌, ◌<◌, ◌≤◌, ◌⊎◌, inl, inr, true, false, IsTrue, List, length, take, get_or, Option, Some, None, refl, sym, ap, subst, ◌∙◌, arith}
use Rattle.std.proofs.lemmas.Bool.{cases_order, or_cases, false≢true}
use Rattle.std.proofs.lemmas.Option.{same_Some}
use Rattle.std.proofs.lemmas.List.{get_or-take, get_or_default, length-take-le}
use Rattle.std.proofs.lemmas.List.Folds.{list_any_more, Any-from_list_any}
use Rattle.grammar_data.specs.Grammar.{Grammar}
use Rattle.grammar_data.specs.TokenSet.{IsTokenSet, has_token}
use Rattle.item_theory.specs.Items.{Item, Deed, Does}
use Rattle.item_theory.proofs.ItemLemmas.{item_same}
use Rattle.collection_data.specs.declared.entry.Entry.{Entry}
use Rattle.collection_data.specs.Entries.{entry_has, entries_have, IsEntryBefore, AreEntries}
use Rattle.collection_data.proofs.TokenLemmas.{past_words}
use Rattle.collection_data.proofs.EntryLemmas.{entry_parts, entry_from, have_at}
use Rattle.table_theory.specs.Deeds.{IsItemBefore, IsItemUpTo, HasDeed}
use Rattle.lr_tables.specs.declared.deed.EntryDeed.{EntryDeed}
use Rattle.lr_tables.specs.declared.deed.EntryDeed.TheVariants.{Shift, Reduce, Accept}
use Rattle.lr_tables.specs.EntryDeeds.{HasItem, HaveItem, IsDone, IsDeedOf, IsOn, deed_in, known_deed}
use Rattle.lr_tables.specs.Clashing.{IsLeastToken, IsLeastAhead, HasNoneBeside, IsLeastBeside}
use Rattle.lr_tables.proofs.EntryDeedLemmas.{done_of}

none_some : {X : Type 0} {x : X} → ◌≡◌ {A = Option X} None (Some x) → ⊥
none_some e = cc

-- ---- the least token

pub some_least : (tokens : List ℕ) (a : ℕ) → IsTokenSet tokens → IsTrue (has_token tokens a) → ((b : ℕ) → b < 256 → has_token tokens b ≡ false) → ⊥
some_least tokens a set has none = cases (cases_order a 256)
  where
    cases : (a ≡ 256) ⊎ ((a < 256) ⊎ (256 < a)) → ⊥
    cases (inl same) = false≢true (sym (past_words tokens a set.four (omega arith)) ∙ has)
    cases (inr (inl less)) = false≢true (sym (none a less) ∙ has)
    cases (inr (inr past)) = false≢true (sym (past_words tokens a set.four (omega arith)) ∙ has)

least_up_to : (tokens : List ℕ) (a b : ℕ) → IsLeastToken tokens a → IsTrue (has_token tokens b) → (a ≡ b) ⊎ (a < b)
least_up_to tokens a b least has = cases (cases_order a b)
  where
    cases : (a ≡ b) ⊎ ((a < b) ⊎ (b < a)) → (a ≡ b) ⊎ (a < b)
    cases (inl same) = inl same
    cases (inr (inl less)) = inr less
    cases (inr (inr more)) = absurd (false≢true (sym (least.first b more) ∙ has))

-- ---- what is done

-- what is done on a token is one deed
pub done_deed : (g : Grammar) (d : EntryDeed) (ahead a : ℕ) (deed : Deed) → IsDone g d ahead a deed → deed_in d ≡ deed
done_deed g (Shift b) ahead a deed done = sym done.1
done_deed g (Reduce r) ahead a deed done = sym done.1
done_deed g Accept ahead a deed done = sym done.1

done_on : (g : Grammar) (d : EntryDeed) (ahead a : ℕ) (deed : Deed) → IsDone g d ahead a deed → IsOn d a
done_on g (Shift b) ahead a deed done = sym done.0
done_on g (Reduce r) ahead a deed done = tt
done_on g Accept ahead a deed done = tt

-- the least item that acts does it too
done_with : (g : Grammar) (e : Entry) (d : EntryDeed) (ahead least a : ℕ) (deed : Deed) → IsDone g d ahead a deed → IsLeastAhead e d a least → IsDone g d least a deed
done_with g e (Shift b) ahead least a deed done is = done
done_with g e (Reduce r) ahead least a deed done is = (is, done.1)
done_with g e Accept ahead least a deed done is = done

ahead_has : (g : Grammar) (e : Entry) (d : EntryDeed) (ahead least a : ℕ) (deed : Deed) → IsDone g d ahead a deed → IsTrue (has_token e.ahead ahead) → IsLeastAhead e d a least → IsTrue (has_token e.ahead least)
ahead_has g e (Shift b) ahead least a deed done has is = is.has
ahead_has g e (Reduce r) ahead least a deed done has is = subst (λ k. IsTrue (has_token e.ahead k)) (done.0 ∙ sym is) has
ahead_has g e Accept ahead least a deed done has is = is.has

ahead_up_to : (g : Grammar) (e : Entry) (d : EntryDeed) (ahead least a : ℕ) (deed : Deed) → IsDone g d ahead a deed → IsTrue (has_token e.ahead ahead) → IsLeastAhead e d a least → (least ≡ ahead) ⊎ (least < ahead)
ahead_up_to g e (Shift b) ahead least a deed done has is = least_up_to e.ahead least ahead is has
ahead_up_to g e (Reduce r) ahead least a deed done has is = inl (is ∙ sym done.0)
ahead_up_to g e Accept ahead least a deed done has is = least_up_to e.ahead least ahead is has

-- one deed on a token is of one entry deed
same_deed : (x y : EntryDeed) (a : ℕ) → IsOn x a → IsOn y a → deed_in x ≡ deed_in y → x ≡ y
same_deed (Shift b) (Shift c) a on too is = ap Shift (on ∙ sym too)
same_deed (Shift b) (Reduce r) a on too is = absurd (cc)
same_deed (Shift b) Accept a on too is = absurd (cc)
same_deed (Reduce r) (Shift c) a on too is = absurd (cc)
same_deed (Reduce r) (Reduce s) a on too is = let same : r ≡ s = cc in ap Reduce same
same_deed (Reduce r) Accept a on too is = absurd (cc)
same_deed Accept (Shift c) a on too is = absurd (cc)
same_deed Accept (Reduce r) a on too is = absurd (cc)
same_deed Accept Accept a on too is = refl

known_same : (x : EntryDeed) (known : Option EntryDeed) (a : ℕ) → IsOn x a → IfSome known (λ d. IsOn d a) → known_deed known ≡ Some (deed_in x) → known ≡ Some x
known_same x None a on too is = absurd (none_some is)
known_same x (Some y) a on too is = ap Some (same_deed y x a too on (same_Some _ _ is))

-- ---- entries in their order

-- an item stands in one of the entries
pub at_place : (es : List Entry) (i : Item) → HaveItem es i → (k : ℕ) × (e : Entry) × (k < length es) × (get_or es k e ≡ e) × HasItem e i
at_place es i has = Any-from_list_any (λ (e : Entry). entry_has e i) es has

pub have_here : (es : List Entry) (k : ℕ) (e : Entry) (i : Item) → k < length es → e ≡ get_or es k e → HasItem e i → HaveItem es i
have_here es k e i less here has = have_at es k e i less (subst (λ (d : Entry). HasItem d i) here has)

-- among the first entries
pub have_before : (es : List Entry) (k m : ℕ) (e : Entry) (i : Item) → m < k → k ≤ length es → get_or es m e ≡ e → HasItem e i → HaveItem (take k es) i
have_before es k m e i less within here has =
    have_here (take k es) m e i (let count = length-take-le k es within in omega arith) (sym (get_or-take k es m e less ∙ here)) has

pub have_more : (es : List Entry) (k : ℕ) (e : Entry) (i : Item) → k < length es → e ≡ get_or es k e → HaveItem (take (k + 1) es) i → HaveItem (take k es) i ⊎ HasItem e i
have_more es k e i less here has = cases (or_cases _ _ (sym (list_any_more (λ (d : Entry). entry_has d i) es k e less) ∙ has))
  where
    cases : (entries_have (take k es) i ≡ true) ⊎ (entry_has (get_or es k e) i ≡ true) → HaveItem (take k es) i ⊎ HasItem e i
    cases (inl h) = inl h
    cases (inr h) = inr (subst (λ (d : Entry). HasItem d i) (sym here) h)

before_items : (d e : Entry) (x i : Item) → IsEntryBefore d e → x.rule ≡ d.rule → x.dot ≡ d.dot → e.rule ≡ i.rule → e.dot ≡ i.dot → IsItemBefore x i
before_items d e x i (inl less) rule dot its_rule its_dot = inl (omega arith)
before_items d e x i (inr (same, less)) rule dot its_rule its_dot = inr (omega arith, inl (omega arith))

-- ---- one entry more

module _ (g : Grammar) (es : List Entry) (are : AreEntries g es) (a : ℕ) (known : Option EntryDeed) (k : ℕ) (e : Entry) (less : k < length es) (here : e ≡ get_or es k e) (none : HasNoneBeside g (take k es) a known) where
  none_by : ((i : Item) (deed : Deed) → HasItem e i → Does g i a deed → known_deed known ≢ Some deed → ⊥) → HasNoneBeside g (take (k + 1) es) a known
  none_by without i deed has does other = cases (have_more es k e i less here has)
    where
      cases : HaveItem (take k es) i ⊎ HasItem e i → ⊥
      cases (inl h) = none i deed h does other
      cases (inr h) = without i deed h does other

  pub none_same : (d : EntryDeed) → IsDeedOf g e d → known ≡ Some d → HasNoneBeside g (take (k + 1) es) a known
  none_same d is same = none_by (λ i deed has does other. other (ap known_deed same ∙ ap Some (done_deed g d i.ahead a deed ((is i has a deed).0 does))))

  pub none_idle : (((deed : Deed) × HasDeed g (HasItem e) a deed) → ⊥) → HasNoneBeside g (take (k + 1) es) a known
  none_idle idle = none_by (λ i deed has does other. idle (deed, (i, has, does)))

  module _ (d : EntryDeed) (is : IsDeedOf g e d) (x : Item) (rule : x.rule ≡ e.rule) (dot : x.dot ≡ e.dot) (ahead : IsLeastAhead e d a x.ahead) (known_on : IfSome known (λ f. IsOn f a)) (differs : known ≡ Some d → ⊥) where
    up_to_same : (i : Item) (other : Deed) → HasItem e i → Does g i a other → IsItemUpTo x i
    up_to_same i other has does = cases (ahead_up_to g e d i.ahead x.ahead a other ((is i has a other).0 does) parts.2 ahead)
      where
        parts : (e.rule ≡ i.rule) × (e.dot ≡ i.dot) × IsTrue (has_token e.ahead i.ahead)
        parts = entry_parts e i has

        cases : (x.ahead ≡ i.ahead) ⊎ (x.ahead < i.ahead) → IsItemUpTo x i
        cases (inl same) = inl (item_same (rule ∙ parts.0) (dot ∙ parts.1) same)
        cases (inr before) = inr (inr (rule ∙ parts.0, inr (dot ∙ parts.1, before)))

    up_to : (i : Item) (other : Deed) → HaveItem es i → Does g i a other → known_deed known ≢ Some other → IsItemUpTo x i
    up_to i other has does other_than = at (at_place es i has)
      where
        at : ((m : ℕ) × (f : Entry) × (m < length es) × (get_or es m f ≡ f) × HasItem f i) → IsItemUpTo x i
        at (m, f, within, is_there, has_it) = cases (cases_order k m)
          where
            parts : (f.rule ≡ i.rule) × (f.dot ≡ i.dot) × IsTrue (has_token f.ahead i.ahead)
            parts = entry_parts f i has_it

            cases : (k ≡ m) ⊎ ((k < m) ⊎ (m < k)) → IsItemUpTo x i
            cases (inl same) =
                let one : f ≡ e = sym is_there ∙ ap (λ n. get_or es n f) (sym same) ∙ get_or_default es k f e less ∙ sym here in
                up_to_same i other (subst (λ (h : Entry). HasItem h i) one has_it) does
            cases (inr (inl later)) =
                let before : IsEntryBefore e f = subst (λ (h : Entry). IsEntryBefore h f) (get_or_default es k f e less ∙ sym here) (subst (λ (h : Entry). IsEntryBefore (get_or es k f) h) is_there (are.rising k m f later within)) in
                inr (before_items e f x i before rule dot parts.0 parts.1)
            cases (inr (inr earlier)) = absurd (none i other (have_before es k m f i earlier (omega arith) is_there has_it) does other_than)

    pub least_found : ((deed : Deed) × HasDeed g (HasItem e) a deed) → IsLeastBeside g es a known x d
    least_found (deed, has) =
        let acting = done_of g e d is a deed has in
        let done : IsDone g d x.ahead a deed = done_with g e d acting.0.ahead x.ahead a deed acting.2 ahead in
        let has_it : HasItem e x = entry_from e x (sym rule) (sym dot) (ahead_has g e d acting.0.ahead x.ahead a deed acting.2 (entry_parts e acting.0 acting.1).2 ahead) in
        let on : IsOn d a = done_on g d x.ahead a deed done in
        record {
          on = on;
          has = have_here es k e x less here has_it;
          does = subst (λ k. Does g x a k) (sym (done_deed g d x.ahead a deed done)) ((is x has_it a deed).1 done);
          differs = λ same. differs (known_same d known a on known_on same);
          least = up_to;
        }
