-- What entries do on a token is decided: nothing, one thing, or two different things.
use Rattle.std.proofs.Common.{◌≡◌, ◌≢◌, ℕ, ◌<◌, ◌⊎◌, inl, inr, ⊎_elim, All, true, false, IsTrue, List, [], ◌∷◌, ◌++◌, length, take, drop, refl, sym, ap, subst, ◌∙◌, arith}
use Rattle.std.proofs.lemmas.Bool.{or_left, or_right, or_cases, false≢true, cases_eq, cases_Bool}
use Rattle.std.proofs.lemmas.List.{take-append-drop, length-take-le}
use Rattle.std.proofs.lemmas.List.Elements.{All-head, All-tail}
use Rattle.grammar_data.specs.declared.rule.Sym.{Sym}
use Rattle.grammar_data.specs.declared.rule.Sym.TheVariants.{Token, Name}
use Rattle.grammar_data.specs.Grammar.{Grammar}
use Rattle.grammar_data.specs.TokenSet.{has_token}
use Rattle.grammar_theory.specs.Rules.{IsRule, end_mark}
use Rattle.item_theory.specs.Items.{Item, Dotted, all_rules, Deed, Does, shifts, reduces, accepts, Shift, Reduce, Accept}
use Rattle.item_theory.proofs.ItemLemmas.{dotted_once, rule_in_range}
use Rattle.collection_data.specs.declared.entry.Entry.{Entry}
use Rattle.collection_data.specs.Entries.{entry_has, entries_have, IsEntry}
use Rattle.collection_data.proofs.EntryLemmas.{entry_parts, entry_from}
use Rattle.table_theory.specs.Deeds.{HasDeed, IsIdle}
use Rattle.table_theory.specs.Clashes.{HasClash}

-- what the items of a set do on a token
pub data Done (g : Grammar) (set : Item → Type 0) (a : ℕ) : Type 0 where
  nothing : IsIdle g set a → Done g set a
  one_deed : (deed : Deed) → HasDeed g set a deed → ((other : Deed) → HasDeed g set a other → other ≡ deed) → Done g set a
  clash : HasClash g set a → Done g set a

-- ---- two sets together

same_or_other : (x y : Deed) → (x ≡ y) ⊎ (x ≢ y)
same_or_other Shift Shift = inl refl
same_or_other Shift (Reduce s) = inr (λ e. absurd (cc))
same_or_other Shift Accept = inr (λ e. absurd (cc))
same_or_other (Reduce r) Shift = inr (λ e. absurd (cc))
same_or_other (Reduce r) (Reduce s) = ⊎_elim (λ same. inl (ap Reduce same)) (λ other. inr (λ e. other (cc))) (cases_eq r s)
same_or_other (Reduce r) Accept = inr (λ e. absurd (cc))
same_or_other Accept Shift = inr (λ e. absurd (cc))
same_or_other Accept (Reduce s) = inr (λ e. absurd (cc))
same_or_other Accept Accept = inl refl

module _ (g : Grammar) (a : ℕ) (here later both : Item → Type 0) (from_here : (i : Item) → here i → both i) (from_later : (i : Item) → later i → both i) (split : (i : Item) → both i → here i ⊎ later i) where
  of_here : (deed : Deed) → HasDeed g here a deed → HasDeed g both a deed
  of_here deed (i, is, does) = (i, from_here i is, does)

  of_later : (deed : Deed) → HasDeed g later a deed → HasDeed g both a deed
  of_later deed (i, is, does) = (i, from_later i is, does)

  parted : (deed : Deed) → HasDeed g both a deed → HasDeed g here a deed ⊎ HasDeed g later a deed
  parted deed (i, is, does) = ⊎_elim (λ h. inl (i, h, does)) (λ l. inr (i, l, does)) (split i is)

  two_deeds : (x y : Deed) → HasDeed g here a x → ((d : Deed) → HasDeed g here a d → d ≡ x) → HasDeed g later a y → ((d : Deed) → HasDeed g later a d → d ≡ y) → (x ≡ y) ⊎ (x ≢ y) → Done g both a
  two_deeds x y hx only_x hy only_y (inl same) = one_deed x (of_here x hx) (λ d h. ⊎_elim (λ k. only_x d k) (λ k. only_y d k ∙ sym same) (parted d h))
  two_deeds x y hx only_x hy only_y (inr differ) = clash (x, y, of_here x hx, of_later y hy, differ)

  pub together : Done g here a → Done g later a → Done g both a
  together (clash (x, y, hx, hy, differ)) other = clash (x, y, of_here x hx, of_here y hy, differ)
  together mine (clash (x, y, hx, hy, differ)) = clash (x, y, of_later x hx, of_later y hy, differ)
  together (nothing idle) (nothing other_idle) = nothing (λ d h. ⊎_elim (λ k. idle d k) (λ k. other_idle d k) (parted d h))
  together (nothing idle) (one_deed y hy only_y) = one_deed y (of_later y hy) (λ d h. ⊎_elim (λ k. absurd (idle d k)) (λ k. only_y d k) (parted d h))
  together (one_deed x hx only_x) (nothing idle) = one_deed x (of_here x hx) (λ d h. ⊎_elim (λ k. only_x d k) (λ k. absurd (idle d k)) (parted d h))
  together (one_deed x hx only_x) (one_deed y hy only_y) = two_deeds x y hx only_x hy only_y (same_or_other x y)

-- ---- one entry

-- what an item with these symbols behind its dot does
data DoneBehind (g : Grammar) (i : Item) (a : ℕ) (deed : Deed) (after : List Sym) : Type 0 where
  shifting : {rest : List Sym} → after ≡ Token a ∷ rest → deed ≡ Shift → DoneBehind g i a deed after
  reducing : after ≡ [] → i.rule < length g.rules → i.ahead ≡ a → deed ≡ Reduce i.rule → DoneBehind g i a deed after
  accepting : after ≡ [] → i.rule ≡ length g.rules → a ≡ end_mark g → deed ≡ Accept → DoneBehind g i a deed after

done_behind : {g : Grammar} {i : Item} {n a : ℕ} {deed : Deed} {before after : List Sym} → Dotted g i n before after → Does g i a deed → DoneBehind g i a deed after
done_behind dotted (shifts other) = shifting (dotted_once dotted other).2 refl
done_behind dotted (reduces other own at is) = reducing (dotted_once dotted other).2 own at is
done_behind dotted (accepts other last at) = accepting (dotted_once dotted other).2 last at refl

module _ (g : Grammar) (e : Entry) (is : IsEntry g e) (a : ℕ) where
  abbrev Own : Item → Type 0
  Own i = IsTrue (entry_has e i)

  abbrev item : ℕ → Item
  item ahead = record { rule = e.rule; dot = e.dot; ahead = ahead }

  own_item : (ahead : ℕ) → IsTrue (has_token e.ahead ahead) → Own (item ahead)
  own_item ahead has = entry_from e (item ahead) refl refl has

  module _ (after : List Sym) (behind : drop e.dot is.right ≡ after) where
    dotted : (i : Item) → Own i → Dotted g i is.name (take e.dot is.right) after
    dotted i own =
        let parts = entry_parts e i own in
        record {
          rule = subst (λ k. IsRule (all_rules g) k is.name (take e.dot is.right ++ after)) parts.0
              (subst (λ l. IsRule (all_rules g) e.rule is.name l) (sym (take-append-drop e.dot is.right) ∙ ap (λ l. take e.dot is.right ++ l) behind) is.rule);
          dot = sym parts.1 ∙ sym (length-take-le e.dot is.right is.dot);
        }

    done_at : (i : Item) (deed : Deed) → Own i → Does g i a deed → DoneBehind g i a deed after
    done_at i deed own does = done_behind (dotted i own) does

  -- with a token behind the dot
  at_token : (b : ℕ) (rest : List Sym) → drop e.dot is.right ≡ Token b ∷ rest → (a ≡ b) ⊎ (a ≢ b) → Done g Own a
  at_token b rest behind (inl same) = one_deed Shift (item is.ahead, own, shifts (subst (λ c. Dotted g (item is.ahead) is.name (take e.dot is.right) (Token c ∷ rest)) (sym same) (dotted (Token b ∷ rest) behind (item is.ahead) own)))
      (λ deed (i, has, does). only deed (done_at (Token b ∷ rest) behind i deed has does))
    where
      own : Own (item is.ahead)
      own = own_item is.ahead is.has

      only : {i : Item} (deed : Deed) → DoneBehind g i a deed (Token b ∷ rest) → deed ≡ Shift
      only deed (shifting at e) = e
      only deed (reducing at less ahead e) = absurd (cc)
      only deed (accepting at last end e) = absurd (cc)
  at_token b rest behind (inr other) = nothing (λ deed (i, has, does). none (done_at (Token b ∷ rest) behind i deed has does))
    where
      none : {i : Item} {deed : Deed} → DoneBehind g i a deed (Token b ∷ rest) → ⊥
      none (shifting at e) = other (cc)
      none (reducing at less ahead e) = absurd (cc)
      none (accepting at last end e) = absurd (cc)

  at_name : (m : ℕ) (rest : List Sym) → drop e.dot is.right ≡ Name m ∷ rest → Done g Own a
  at_name m rest behind = nothing (λ deed (i, has, does). none (done_at (Name m ∷ rest) behind i deed has does))
    where
      none : {i : Item} {deed : Deed} → DoneBehind g i a deed (Name m ∷ rest) → ⊥
      none (shifting at e) = absurd (cc)
      none (reducing at less ahead e) = absurd (cc)
      none (accepting at last end e) = absurd (cc)

  -- with the dot at the end: of a rule of the grammar, and of the augmented one
  at_end_own : drop e.dot is.right ≡ [] → e.rule < length g.rules → (has_token e.ahead a ≡ true) ⊎ (has_token e.ahead a ≡ false) → Done g Own a
  at_end_own behind less (inl has) = one_deed (Reduce e.rule) (item a, own_item a has, reduces (dotted [] behind (item a) (own_item a has)) less refl refl)
      (λ deed (i, own, does). only i deed own (done_at [] behind i deed own does))
    where
      only : (i : Item) (deed : Deed) → Own i → DoneBehind g i a deed [] → deed ≡ Reduce e.rule
      only i deed own (shifting at e) = absurd (cc)
      only i deed own (reducing at lower ahead is_reduce) = is_reduce ∙ ap Reduce (sym (entry_parts e i own).0)
      only i deed own (accepting at last end is_accept) = let rule = (entry_parts e i own).0 in absurd (omega arith)
  at_end_own behind less (inr lacks) = nothing (λ deed (i, own, does). none i deed own (done_at [] behind i deed own does))
    where
      none : (i : Item) (deed : Deed) → Own i → DoneBehind g i a deed [] → ⊥
      none i deed own (shifting at e) = absurd (cc)
      none i deed own (reducing at lower ahead is_reduce) = false≢true (sym lacks ∙ ap (has_token e.ahead) (sym ahead) ∙ (entry_parts e i own).2)
      none i deed own (accepting at last end is_accept) = let rule = (entry_parts e i own).0 in absurd (omega arith)

  at_end_last : drop e.dot is.right ≡ [] → e.rule ≡ length g.rules → (a ≡ end_mark g) ⊎ (a ≢ end_mark g) → Done g Own a
  at_end_last behind last (inl end) = one_deed Accept (item is.ahead, own, accepts (dotted [] behind (item is.ahead) own) last end)
      (λ deed (i, has, does). only i deed has (done_at [] behind i deed has does))
    where
      own : Own (item is.ahead)
      own = own_item is.ahead is.has

      only : (i : Item) (deed : Deed) → Own i → DoneBehind g i a deed [] → deed ≡ Accept
      only i deed has (shifting at e) = absurd (cc)
      only i deed has (reducing at lower ahead is_reduce) = let rule = (entry_parts e i has).0 in absurd (omega arith)
      only i deed has (accepting at rule there is_accept) = is_accept
  at_end_last behind last (inr other) = nothing (λ deed (i, has, does). none i deed has (done_at [] behind i deed has does))
    where
      none : (i : Item) (deed : Deed) → Own i → DoneBehind g i a deed [] → ⊥
      none i deed has (shifting at e) = absurd (cc)
      none i deed has (reducing at lower ahead is_reduce) = let rule = (entry_parts e i has).0 in absurd (omega arith)
      none i deed has (accepting at rule there is_accept) = other there

  at_end : drop e.dot is.right ≡ [] → (e.rule ≡ length g.rules) ⊎ (e.rule ≢ length g.rules) → Done g Own a
  at_end behind (inl last) = at_end_last behind last (cases_eq a (end_mark g))
  at_end behind (inr other) =
      let range = rule_in_range g (dotted [] behind (item is.ahead) (own_item is.ahead is.has)) in
      at_end_own behind (omega arith) (cases_Bool (has_token e.ahead a))

  by_behind : (after : List Sym) → drop e.dot is.right ≡ after → Done g Own a
  by_behind [] behind = at_end behind (cases_eq e.rule (length g.rules))
  by_behind (Token b ∷ rest) behind = at_token b rest behind (cases_eq a b)
  by_behind (Name m ∷ rest) behind = at_name m rest behind

  pub entry_done : Done g Own a
  entry_done = by_behind (drop e.dot is.right) refl

-- ---- all entries

pub entries_done : (g : Grammar) (entries : List Entry) (a : ℕ) → All (IsEntry g) entries → Done g (λ i. IsTrue (entries_have entries i)) a
entries_done g [] a all = nothing (λ deed (i, has, does). false≢true has)
entries_done g (e ∷ es) a all =
    together g a (λ i. IsTrue (entry_has e i)) (λ i. IsTrue (entries_have es i)) (λ i. IsTrue (entries_have (e ∷ es) i))
    (λ i h. or_left _ _ h) (λ i h. or_right _ _ h) (λ i h. or_cases _ _ h)
    (entry_done g e (All-head (IsEntry g) e es all) a) (entries_done g es a (All-tail (IsEntry g) e es all))
