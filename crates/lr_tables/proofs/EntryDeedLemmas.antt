-- What the items of an entry do.
use Rattle.std.proofs.Common.{◌≡◌, ℕ, suc, ◌<◌, ◌≤◌, ◌↔◌, Bool, ◌==◌, IsTrue, List, [], ◌∷◌, length, take, drop, get_or, slice_get, Some, refl, sym, ap, subst, ◌∙◌, arith}
use Rattle.std.specs.Option.{option_map}
use Rattle.std.proofs.lemmas.Bool.{eqb-true, eq-eqb}
use Rattle.std.proofs.lemmas.List.{take-append-drop, length-take-le}
use Rattle.std.proofs.lemmas.Option.{slice_get_within, same_Some}
use Rattle.std.proofs.Math.Seq.{drop-cons}
use Rattle.grammar_data.specs.declared.rule.Sym.{Sym}
use Rattle.grammar_data.specs.declared.rule.Sym.TheVariants.{Token, Name}
use Rattle.grammar_data.specs.Grammar.{Rule, Grammar}
use Rattle.grammar_data.specs.TokenSet.{has_token}
use Rattle.grammar_theory.specs.Rules.{IsRule, end_mark}
use Rattle.item_theory.specs.Items.{Item, Dotted, Deed, Does, shifts, reduces, accepts, all_rules, Shift as to_shift, Reduce as to_reduce, Accept as to_accept}
use Rattle.item_theory.proofs.ItemLemmas.{WhichRule, is_own, is_last, which_rule, dotted_once}
use Rattle.collection_data.specs.declared.entry.Entry.{Entry}
use Rattle.collection_data.specs.Entries.{IsEntry}
use Rattle.collection_data.proofs.EntryLemmas.{entry_parts, entry_from}
use Rattle.table_theory.specs.Deeds.{HasDeed}
use Rattle.lr_tables.specs.declared.deed.EntryDeed.{EntryDeed}
use Rattle.lr_tables.specs.declared.deed.EntryDeed.TheVariants.{Shift, Reduce, Accept}
use Rattle.lr_tables.specs.EntryDeeds.{HasItem, IsDone, IsDeedOf, IsIdle}

-- ---- one item, by what stands behind its dot

nil_cons : {X : Type 0} {x : X} {xs : List X} → [] ≡ x ∷ xs → ⊥
nil_cons e = cc

same_token : {a b : ℕ} {xs ys : List Sym} → Token a ∷ xs ≡ Token b ∷ ys → a ≡ b
same_token e = cc

token_name : {a m : ℕ} {xs ys : List Sym} → Token a ∷ xs ≡ Name m ∷ ys → ⊥
token_name e = cc

does_shift : {g : Grammar} {i : Item} {n b a : ℕ} {before after : List Sym} {deed : Deed} → Dotted g i n before (Token b ∷ after) → Does g i a deed → (a ≡ b) × (deed ≡ to_shift)
does_shift d (shifts e) = (same_token (dotted_once e d).2, refl)
does_shift d (reduces e own at is) = absurd (nil_cons (dotted_once e d).2)
does_shift d (accepts e last end) = absurd (nil_cons (dotted_once e d).2)

shift_does : {g : Grammar} {i : Item} {n b a : ℕ} {before after : List Sym} {deed : Deed} → Dotted g i n before (Token b ∷ after) → (a ≡ b) × (deed ≡ to_shift) → Does g i a deed
shift_does {g = g} {i = i} {n = n} {a = a} {before = before} {after = after} d (at, is) =
    subst (λ k. Does g i a k) (sym is) (shifts (subst (λ k. Dotted g i n before (Token k ∷ after)) (sym at) d))

does_nothing : {g : Grammar} {i : Item} {n m a : ℕ} {before after : List Sym} {deed : Deed} → Dotted g i n before (Name m ∷ after) → Does g i a deed → ⊥
does_nothing d (shifts e) = token_name (dotted_once e d).2
does_nothing d (reduces e own at is) = nil_cons (dotted_once e d).2
does_nothing d (accepts e last end) = nil_cons (dotted_once e d).2

does_reduce : {g : Grammar} {i : Item} {n a : ℕ} {before : List Sym} {deed : Deed} → Dotted g i n before [] → i.rule < length g.rules → Does g i a deed → (i.ahead ≡ a) × (deed ≡ to_reduce i.rule)
does_reduce d less (shifts e) = absurd (nil_cons (dotted_once d e).2)
does_reduce d less (reduces e own at is) = (at, is)
does_reduce d less (accepts e last end) = absurd (omega arith)

does_accept : {g : Grammar} {i : Item} {n a : ℕ} {before : List Sym} {deed : Deed} → Dotted g i n before [] → i.rule ≡ length g.rules → Does g i a deed → (a ≡ end_mark g) × (deed ≡ to_accept)
does_accept d last (shifts e) = absurd (nil_cons (dotted_once d e).2)
does_accept d last (reduces e own at is) = absurd (omega arith)
does_accept d last (accepts e too end) = (end, refl)

accept_does : {g : Grammar} {i : Item} {n a : ℕ} {before : List Sym} {deed : Deed} → Dotted g i n before [] → i.rule ≡ length g.rules → (a ≡ end_mark g) × (deed ≡ to_accept) → Does g i a deed
accept_does {g = g} {i = i} {a = a} d last (end, is) = subst (λ k. Does g i a k) (sym is) (accepts d last end)

-- ---- the items of an entry

module _ (g : Grammar) (e : Entry) (n : ℕ) (right : List Sym) (rule : IsRule (all_rules g) e.rule n right) (within : e.dot ≤ length right) where
  dotted : (i : Item) → HasItem e i → Dotted g i n (take e.dot right) (drop e.dot right)
  dotted i has =
      let parts = entry_parts e i has in
      record {
        rule = subst (λ (l : List Sym). IsRule (all_rules g) i.rule n l) (sym (take-append-drop e.dot right)) (subst (λ r. IsRule (all_rules g) r n right) parts.0 rule);
        dot = sym parts.1 ∙ sym (length-take-le e.dot right within);
      }

  dotted_by : (after : List Sym) → drop e.dot right ≡ after → (i : Item) → HasItem e i → Dotted g i n (take e.dot right) after
  dotted_by after behind i has = subst (λ (l : List Sym). Dotted g i n (take e.dot right) l) behind (dotted i has)

  pub entry_shifts : (b : ℕ) (after : List Sym) → drop e.dot right ≡ Token b ∷ after → IsDeedOf g e (Shift b)
  entry_shifts b after behind i has a deed = (does_shift (dotted_by _ behind i has), shift_does (dotted_by _ behind i has))

  pub entry_idle : (m : ℕ) (after : List Sym) → drop e.dot right ≡ Name m ∷ after → IsIdle g e
  entry_idle m after behind i has a deed = does_nothing (dotted_by _ behind i has)

  pub entry_reduces : drop e.dot right ≡ [] → e.rule < length g.rules → IsDeedOf g e (Reduce e.rule)
  entry_reduces behind less i has a deed =
      let same = (entry_parts e i has).0 in
      let own : i.rule < length g.rules = omega arith in
      let d = dotted_by _ behind i has in (
        λ h. let does = does_reduce d own h in (does.0, does.1 ∙ ap to_reduce (sym same)),
        λ (at, is). reduces d own at (is ∙ ap to_reduce same),
      )

  pub entry_accepts : drop e.dot right ≡ [] → e.rule ≡ length g.rules → IsDeedOf g e Accept
  entry_accepts behind last i has a deed =
      let same = (entry_parts e i has).0 in
      let own : i.rule ≡ length g.rules = omega arith in
      let d = dotted_by _ behind i has in
      (does_accept d own, accept_does d own)

-- ---- the right side of an entry's rule

-- the augmented rule derives the start alone
pub augmented_right : (g : Grammar) (e : Entry) → e.rule ≡ length g.rules → (entry : IsEntry g e) → entry.right ≡ Name g.start ∷ []
augmented_right g e last entry = cases (which_rule g entry.rule)
  where
    cases : WhichRule g e.rule entry.name entry.right → entry.right ≡ Name g.start ∷ []
    cases (is_own own) = let less = slice_get_within g.rules e.rule (entry.name, entry.right) own.found in absurd (omega arith)
    cases (is_last at left is) = is

pub own_right : (g : Grammar) (e : Entry) → e.rule < length g.rules → (entry : IsEntry g e) (right : List Sym) → option_map (λ (rule : Rule). rule.1) (slice_get g.rules e.rule) ≡ Some right → entry.right ≡ right
own_right g e less entry right found = cases (which_rule g entry.rule)
  where
    cases : WhichRule g e.rule entry.name entry.right → entry.right ≡ right
    cases (is_own own) = same_Some _ _ (sym (ap (option_map (λ (rule : Rule). rule.1)) own.found) ∙ found)
    cases (is_last at left is) = absurd (omega arith)

pub own_rule_of : (g : Grammar) (e : Entry) → IsEntry g e → (e.rule ≡ length g.rules → ⊥) → e.rule < length g.rules
own_rule_of g e entry other = cases (which_rule g entry.rule)
  where
    cases : WhichRule g e.rule entry.name entry.right → e.rule < length g.rules
    cases (is_own own) = slice_get_within g.rules e.rule (entry.name, entry.right) own.found
    cases (is_last at left is) = absurd (other at)

pub behind_at : (right : List Sym) (at dot : ℕ) (x y : Sym) → at ≡ dot → at < length right → x ≡ get_or right at x → x ≡ y → drop dot right ≡ y ∷ drop (suc dot) right
behind_at right at dot x y same less here is =
    ap (λ k. drop k right) (sym same) ∙ drop-cons right at x less ∙ ap (λ z. z ∷ drop (suc at) right) (sym here ∙ is) ∙ ap (λ k. y ∷ drop (suc k) right) same

-- ---- the deeds of an entry

-- the entry's item with this lookahead
abbrev pub item_with : Entry → ℕ → Item
item_with e b = record { rule = e.rule; dot = e.dot; ahead = b }

pub has_with : (e : Entry) (b : ℕ) → IsTrue (has_token e.ahead b) → HasItem e (item_with e b)
has_with e b has = entry_from e (item_with e b) refl refl has

pub deed_shift : (g : Grammar) (e : Entry) (b : ℕ) → IsEntry g e → IsDeedOf g e (Shift b) → HasDeed g (HasItem e) b to_shift
deed_shift g e b entry is =
    let has = has_with e entry.ahead entry.has in
    (item_with e entry.ahead, has, (is (item_with e entry.ahead) has b to_shift).1 (refl, refl))

pub deed_reduce : (g : Grammar) (e : Entry) (r : ℕ) → IsDeedOf g e (Reduce r) → (a : ℕ) → IsTrue (has_token e.ahead a) → HasDeed g (HasItem e) a (to_reduce r)
deed_reduce g e r is a ahead =
    let has = has_with e a ahead in
    (item_with e a, has, (is (item_with e a) has a (to_reduce r)).1 (refl, refl))

pub deed_accept : (g : Grammar) (e : Entry) → IsEntry g e → IsDeedOf g e Accept → HasDeed g (HasItem e) (end_mark g) to_accept
deed_accept g e entry is =
    let has = has_with e entry.ahead entry.has in
    (item_with e entry.ahead, has, (is (item_with e entry.ahead) has (end_mark g) to_accept).1 (refl, refl))

-- what is done is what the entry's items do
pub done_of : (g : Grammar) (e : Entry) (d : EntryDeed) → IsDeedOf g e d → (a : ℕ) (deed : Deed) → HasDeed g (HasItem e) a deed → (i : Item) × HasItem e i × IsDone g d i.ahead a deed
done_of g e d is a deed (i, has, does) = (i, has, (is i has a deed).0 does)

pub acts_shift : (g : Grammar) (e : Entry) (b : ℕ) → IsEntry g e → IsDeedOf g e (Shift b) → (a : ℕ) → (b ≡ a) ↔ ((deed : Deed) × HasDeed g (HasItem e) a deed)
acts_shift g e b entry is a = (
  λ same. (to_shift, subst (λ k. HasDeed g (HasItem e) k to_shift) same (deed_shift g e b entry is)),
  λ (deed, has). sym (done_of g e (Shift b) is a deed has).2.0,
)

pub acts_reduce : (g : Grammar) (e : Entry) (r : ℕ) → IsDeedOf g e (Reduce r) → (a : ℕ) → IsTrue (has_token e.ahead a) ↔ ((deed : Deed) × HasDeed g (HasItem e) a deed)
acts_reduce g e r is a = (
  λ ahead. (to_reduce r, deed_reduce g e r is a ahead),
  λ (deed, has). let done = done_of g e (Reduce r) is a deed has in subst (λ k. IsTrue (has_token e.ahead k)) done.2.0 (entry_parts e done.0 done.1).2,
)

pub acts_accept : (g : Grammar) (e : Entry) → IsEntry g e → IsDeedOf g e Accept → (a : ℕ) → (a ≡ end_mark g) ↔ ((deed : Deed) × HasDeed g (HasItem e) a deed)
acts_accept g e entry is a = (
  λ same. (to_accept, subst (λ k. HasDeed g (HasItem e) k to_accept) (sym same) (deed_accept g e entry is)),
  λ (deed, has). (done_of g e Accept is a deed has).2.0,
)

-- a test of two numbers, as the fact that it stands for
pub test_for : (result : Bool) (a b : ℕ) {P : Type 0} → result ≡ (a == b) → (a ≡ b) ↔ P → IsTrue result ↔ P
test_for result a b is iff = (λ h. iff.0 (eqb-true a b (sym is ∙ h)), λ p. is ∙ eq-eqb a b (iff.1 p))
