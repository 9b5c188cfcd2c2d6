-- Entries that rise are told by their items.
use Rattle.std.proofs.Common.{◌≡◌, ℕ, ◌<◌, ◌⊎◌, inl, inr, Bool, true, false, IsTrue, List, [], ◌∷◌, All, refl, sym, ap, ◌∙◌, arith}
use Rattle.std.proofs.lemmas.Bool.{or_left, or_right, or_cases, false≢true}
use Rattle.std.proofs.lemmas.List.Elements.{All-head, All-tail}
use Rattle.grammar_data.specs.Grammar.{Grammar}
use Rattle.grammar_data.specs.TokenSet.{has_token}
use Rattle.grammar_data.proofs.TokenSetLemmas.{equal_from_members}
use Rattle.item_theory.specs.Items.{Item}
use Rattle.collection_data.specs.declared.entry.Entry.{Entry}
use Rattle.collection_data.specs.Entries.{entry_has, entries_have, IsEntryBefore, IsEntry}
use Rattle.collection_data.proofs.EntryLemmas.{entry_parts, entry_from, Rising}

abbrev pub Has : List Entry → Item → Type 0
Has es i = IsTrue (entries_have es i)

-- the item's rule and dot are behind those of the entry
abbrev pub IsBehind : Entry → Item → Type 0
IsBehind e i = (e.rule < i.rule) ⊎ ((e.rule ≡ i.rule) × (e.dot < i.dot))

behind_of : (e d : Entry) (i : Item) → IsEntryBefore e d → IsTrue (entry_has d i) → IsBehind e i
behind_of e d i before h = cases before (entry_parts d i h)
  where
    cases : IsEntryBefore e d → (d.rule ≡ i.rule) × (d.dot ≡ i.dot) × IsTrue (has_token d.ahead i.ahead) → IsBehind e i
    cases (inl less) parts = let same = parts.0 in inl (omega arith)
    cases (inr k) parts = let less = k.1 in let dot = parts.1 in inr (k.0 ∙ parts.0, omega arith)

behind_cases : (e d : Entry) (es : List Entry) (i : Item) → IsEntryBefore e d → (Has es i → IsBehind e i) → (entry_has d i ≡ true) ⊎ (entries_have es i ≡ true) → IsBehind e i
behind_cases e d es i before go (inl h) = behind_of e d i before h
behind_cases e d es i before go (inr h) = go h

all_behind : (e : Entry) (es : List Entry) (i : Item) → All (IsEntryBefore e) es → Has es i → IsBehind e i
all_behind e [] i all h = absurd (false≢true h)
all_behind e (d ∷ es) i all h = behind_cases e d es i (All-head (IsEntryBefore e) d es all) (λ k. all_behind e es i (All-tail (IsEntryBefore e) d es all) k) (or_cases _ _ h)

not_behind_own : (e : Entry) (i : Item) → IsBehind e i → e.rule ≡ i.rule → e.dot ≡ i.dot → ⊥
not_behind_own e i (inl less) rule dot = absurd (omega arith)
not_behind_own e i (inr h) rule dot = let less = h.1 in absurd (omega arith)

not_behind_both : (d e : Entry) (i j : Item) → d.rule ≡ i.rule → d.dot ≡ i.dot → e.rule ≡ j.rule → e.dot ≡ j.dot → IsBehind e i → IsBehind d j → ⊥
not_behind_both d e i j a b p q (inl h) (inl k) = absurd (omega arith)
not_behind_both d e i j a b p q (inl h) (inr k) = let same = k.0 in absurd (omega arith)
not_behind_both d e i j a b p q (inr h) (inl k) = let same = h.0 in absurd (omega arith)
not_behind_both d e i j a b p q (inr h) (inr k) = let less = h.1 in let more = k.1 in absurd (omega arith)

bool_same : (x y : Bool) → (x ≡ true → y ≡ true) → (y ≡ true → x ≡ true) → x ≡ y
bool_same true y to from = sym (to refl)
bool_same false true to from = from refl
bool_same false false to from = refl

pub entry_same : {d e : Entry} → d.rule ≡ e.rule → d.dot ≡ e.dot → d.ahead ≡ e.ahead → d ≡ e
entry_same rule dot ahead = λ k. record { rule = rule k; dot = dot k; ahead = ahead k }

module _ (g : Grammar) (x y : Entry) (xs ys : List Entry) (x_first : All (IsEntryBefore x) xs) (y_first : All (IsEntryBefore y) ys) (x_is : IsEntry g x) (y_is : IsEntry g y)
    (to : (i : Item) → Has (x ∷ xs) i → Has (y ∷ ys) i) (from : (i : Item) → Has (y ∷ ys) i → Has (x ∷ xs) i) where
  heads_same : (entry_has y (record { rule = x.rule; dot = x.dot; ahead = x_is.ahead }) ≡ true) ⊎ Has ys (record { rule = x.rule; dot = x.dot; ahead = x_is.ahead })
      → (entry_has x (record { rule = y.rule; dot = y.dot; ahead = y_is.ahead }) ≡ true) ⊎ Has xs (record { rule = y.rule; dot = y.dot; ahead = y_is.ahead }) → (x.rule ≡ y.rule) × (x.dot ≡ y.dot)
  heads_same (inl h) k = let parts = entry_parts y _ h in (sym parts.0, sym parts.1)
  heads_same (inr h) (inl k) = let parts = entry_parts x _ k in (parts.0, parts.1)
  heads_same (inr h) (inr k) = absurd (not_behind_both x y (record { rule = x.rule; dot = x.dot; ahead = x_is.ahead }) (record { rule = y.rule; dot = y.dot; ahead = y_is.ahead }) refl refl refl refl (all_behind y ys _ y_first h) (all_behind x xs _ x_first k))

  same_place : (x.rule ≡ y.rule) × (x.dot ≡ y.dot)
  same_place = heads_same
      (or_cases _ _ (to (record { rule = x.rule; dot = x.dot; ahead = x_is.ahead }) (or_left _ _ (entry_from x _ refl refl x_is.has))))
      (or_cases _ _ (from (record { rule = y.rule; dot = y.dot; ahead = y_is.ahead }) (or_left _ _ (entry_from y _ refl refl y_is.has))))

  x_token : (a : ℕ) → (entry_has y (record { rule = x.rule; dot = x.dot; ahead = a }) ≡ true) ⊎ Has ys (record { rule = x.rule; dot = x.dot; ahead = a }) → has_token y.ahead a ≡ true
  x_token a (inl h) = (entry_parts y (record { rule = x.rule; dot = x.dot; ahead = a }) h).2
  x_token a (inr h) = absurd (not_behind_own y (record { rule = x.rule; dot = x.dot; ahead = a }) (all_behind y ys (record { rule = x.rule; dot = x.dot; ahead = a }) y_first h) (sym same_place.0) (sym same_place.1))

  y_token : (a : ℕ) → (entry_has x (record { rule = y.rule; dot = y.dot; ahead = a }) ≡ true) ⊎ Has xs (record { rule = y.rule; dot = y.dot; ahead = a }) → has_token x.ahead a ≡ true
  y_token a (inl h) = (entry_parts x (record { rule = y.rule; dot = y.dot; ahead = a }) h).2
  y_token a (inr h) = absurd (not_behind_own x (record { rule = y.rule; dot = y.dot; ahead = a }) (all_behind x xs (record { rule = y.rule; dot = y.dot; ahead = a }) x_first h) same_place.0 same_place.1)

  same_tokens : (a : ℕ) → has_token x.ahead a ≡ has_token y.ahead a
  same_tokens a = bool_same _ _
      (λ h. x_token a (or_cases _ _ (to (record { rule = x.rule; dot = x.dot; ahead = a }) (or_left _ _ (entry_from x _ refl refl h)))))
      (λ h. y_token a (or_cases _ _ (from (record { rule = y.rule; dot = y.dot; ahead = a }) (or_left _ _ (entry_from y _ refl refl h)))))

  pub first_same : x ≡ y
  first_same = entry_same same_place.0 same_place.1 (equal_from_members x.ahead y.ahead x_is.set y_is.set same_tokens)

  rest_to : (i : Item) → Has xs i → (entry_has y i ≡ true) ⊎ Has ys i → Has ys i
  rest_to i h (inl k) = let parts = entry_parts y i k in absurd (not_behind_own x i (all_behind x xs i x_first h) (same_place.0 ∙ parts.0) (same_place.1 ∙ parts.1))
  rest_to i h (inr k) = k

  rest_from : (i : Item) → Has ys i → (entry_has x i ≡ true) ⊎ Has xs i → Has xs i
  rest_from i h (inl k) = let parts = entry_parts x i k in absurd (not_behind_own y i (all_behind y ys i y_first h) (sym same_place.0 ∙ parts.0) (sym same_place.1 ∙ parts.1))
  rest_from i h (inr k) = k

  pub tail_to : (i : Item) → Has xs i → Has ys i
  tail_to i h = rest_to i h (or_cases _ _ (to i (or_right _ _ h)))

  pub tail_from : (i : Item) → Has ys i → Has xs i
  tail_from i h = rest_from i h (or_cases _ _ (from i (or_right _ _ h)))

pub item_in : (g : Grammar) (e : Entry) (es : List Entry) (is : IsEntry g e) → Has (e ∷ es) (record { rule = e.rule; dot = e.dot; ahead = is.ahead })
item_in g e es is = or_left _ _ (entry_from e _ refl refl is.has)

-- entries with the same items are the same
pub same_entries : (g : Grammar) (xs ys : List Entry) → Rising xs → Rising ys → All (IsEntry g) xs → All (IsEntry g) ys → ((i : Item) → Has xs i → Has ys i) → ((i : Item) → Has ys i → Has xs i) → xs ≡ ys
same_entries g [] [] p q a b to from = refl
same_entries g [] (y ∷ ys) p q a b to from = absurd (false≢true (from _ (item_in g y ys (All-head (IsEntry g) y ys b))))
same_entries g (x ∷ xs) [] p q a b to from = absurd (false≢true (to _ (item_in g x xs (All-head (IsEntry g) x xs a))))
same_entries g (x ∷ xs) (y ∷ ys) p q a b to from =
    let x_is = All-head (IsEntry g) x xs a in
    let y_is = All-head (IsEntry g) y ys b in
    let tails : xs ≡ ys = same_entries g xs ys p.1 q.1 (All-tail (IsEntry g) x xs a) (All-tail (IsEntry g) y ys b)
    (tail_to g x y xs ys p.0 q.0 x_is y_is to from) (tail_from g x y xs ys p.0 q.0 x_is y_is to from) in
    ap (λ e. e ∷ xs) (first_same g x y xs ys p.0 q.0 x_is y_is to from) ∙ ap (λ es. y ∷ es) tails
