-- Keys tell entries, and the kernel of a closure is what was given.
use Rattle.std.proofs.Common.{◌≡◌, ℕ, ◌<◌, ◌↔◌, ◌⊎◌, inl, inr, Bool, true, false, nat_lt, cond, IsTrue, List, [], ◌∷◌, ◌++◌, length, All, refl, sym, ap, subst, ◌∙◌, arith, append_assoc, append-nil}
use Rattle.std.proofs.lemmas.Bool.{or_left, or_right, or_cases, false≢true, ltb-true, lt-ltb, cases_Bool}
use Rattle.std.proofs.lemmas.List.Elements.{All-head, All-tail, All-filter}
use Rattle.std.proofs.lemmas.List.Kept.{AllPairs-filter}
use Rattle.item_theory.specs.Chains.{Closure, kept, opened, opens}
use Rattle.grammar_data.specs.Grammar.{Grammar}
use Rattle.grammar_data.specs.TokenSet.{IsTokenSet}
use Rattle.item_theory.specs.Items.{Item}
use Rattle.collection_data.specs.declared.entry.Entry.{Entry}
use Rattle.collection_data.specs.Entries.{entry_has, entries_have, IsEntryBefore, IsEntry, AreEntries}
use Rattle.item_sets.specs.Successors.{key_of}
use Rattle.item_sets.specs.Searching.{kernel_of}
use Rattle.collection_data.proofs.EntryLemmas.{entry_parts, rising_of}
use Rattle.collection_data.proofs.SameEntries.{Has, entry_same, same_entries}

-- ---- keys

same_front : (us vs ws zs : List ℕ) → length us ≡ length vs → us ++ ws ≡ vs ++ zs → (us ≡ vs) × (ws ≡ zs)
same_front [] [] ws zs size e = (refl, e)
same_front [] (v ∷ vs) ws zs size e = absurd (omega arith)
same_front (u ∷ us) [] ws zs size e = absurd (omega arith)
same_front (u ∷ us) (v ∷ vs) ws zs size e =
    let first : u ≡ v = cc in
    let rest : us ++ ws ≡ vs ++ zs = cc in
    let both = same_front us vs ws zs (omega arith) rest in
    (ap (λ k. k ∷ us) first ∙ ap (λ l. v ∷ l) both.0, both.1)

-- entries with the same key are the same
pub same_from_key : (xs ys : List Entry) → All (λ (e : Entry). IsTokenSet e.ahead) xs → All (λ (e : Entry). IsTokenSet e.ahead) ys → key_of xs ≡ key_of ys → xs ≡ ys
same_from_key [] [] a b e = refl
same_from_key [] (y ∷ ys) a b e = absurd (cc)
same_from_key (x ∷ xs) [] a b e = absurd (cc)
same_from_key (x ∷ xs) (y ∷ ys) a b e =
    let rule : x.rule ≡ y.rule = cc in
    let dot : x.dot ≡ y.dot = cc in
    let rest : x.ahead ++ key_of xs ≡ y.ahead ++ key_of ys = cc in
    let x_set = All-head (λ (d : Entry). IsTokenSet d.ahead) x xs a in
    let y_set = All-head (λ (d : Entry). IsTokenSet d.ahead) y ys b in
    let both = same_front x.ahead y.ahead (key_of xs) (key_of ys) (x_set.four ∙ sym y_set.four) rest in
    let tails = same_from_key xs ys (All-tail (λ (d : Entry). IsTokenSet d.ahead) x xs a) (All-tail (λ (d : Entry). IsTokenSet d.ahead) y ys b) both.1 in
    ap (λ (d : Entry). d ∷ xs) (entry_same rule dot both.0) ∙ ap (λ es. y ∷ es) tails

pub key_pushed : (es : List Entry) (e : Entry) → key_of (es ++ e ∷ []) ≡ key_of es ++ (e.rule ∷ (e.dot ∷ e.ahead))
key_pushed [] e = ap (λ l. e.rule ∷ (e.dot ∷ l)) (append-nil e.ahead)
key_pushed (d ∷ es) e = ap (λ l. d.rule ∷ (d.dot ∷ l)) (ap (λ l. d.ahead ++ l) (key_pushed es e) ∙ sym (append_assoc d.ahead (key_of es) (e.rule ∷ (e.dot ∷ e.ahead))))

pub key_joined : (key : List ℕ) (e : Entry) → ((key ++ e.rule ∷ []) ++ e.dot ∷ []) ++ e.ahead ≡ key ++ (e.rule ∷ (e.dot ∷ e.ahead))
key_joined key e = append_assoc (key ++ e.rule ∷ []) (e.dot ∷ []) e.ahead ∙ append_assoc key (e.rule ∷ []) (e.dot ∷ e.ahead)

-- ---- the kernel of a closure

kernel_first : (e : Entry) (es : List Entry) (i : Item) → ((nat_lt 0 e.dot ≡ true) ⊎ (nat_lt 0 e.dot ≡ false)) → Has (kernel_of (e ∷ es)) i → ((0 < e.dot) × IsTrue (entry_has e i)) ⊎ Has (kernel_of es) i
kernel_first e es i (inl moved) h = taken (or_cases _ _ (subst (λ b. Has (cond b (e ∷ kernel_of es) (kernel_of es)) i) moved h))
  where
    taken : (entry_has e i ≡ true) ⊎ (entries_have (kernel_of es) i ≡ true) → ((0 < e.dot) × IsTrue (entry_has e i)) ⊎ Has (kernel_of es) i
    taken (inl k) = inl (ltb-true 0 e.dot moved, k)
    taken (inr k) = inr k
kernel_first e es i (inr front) h = inr (subst (λ b. Has (cond b (e ∷ kernel_of es) (kernel_of es)) i) front h)

kernel_has_by : (e : Entry) (es : List Entry) (i : Item) → (Has (kernel_of es) i → Has es i × (0 < i.dot)) → ((0 < e.dot) × IsTrue (entry_has e i)) ⊎ Has (kernel_of es) i → Has (e ∷ es) i × (0 < i.dot)
kernel_has_by e es i go (inl h) = let parts = entry_parts e i h.1 in let less = h.0 in let dot = parts.1 in (or_left _ _ h.1, omega arith)
kernel_has_by e es i go (inr h) = let k = go h in (or_right _ _ k.0, k.1)

-- the items of the kernel are those with the dot behind a symbol
pub kernel_has : (es : List Entry) (i : Item) → Has (kernel_of es) i → Has es i × (0 < i.dot)
kernel_has [] i h = absurd (false≢true h)
kernel_has (e ∷ es) i h = kernel_has_by e es i (λ k. kernel_has es i k) (kernel_first e es i (cases_Bool (nat_lt 0 e.dot)) h)

has_later : (e : Entry) (es : List Entry) (i : Item) (b : Bool) → Has es i → Has (cond b (e ∷ es) es) i
has_later e es i true h = or_right _ _ h
has_later e es i false h = h

kernel_keeps : (e : Entry) (es : List Entry) (i : Item) → 0 < i.dot → (Has es i → Has (kernel_of es) i) → (entry_has e i ≡ true) ⊎ (entries_have es i ≡ true) → Has (kernel_of (e ∷ es)) i
kernel_keeps e es i less go (inl h) =
    let dot = (entry_parts e i h).1 in
    subst (λ b. Has (cond b (e ∷ kernel_of es) (kernel_of es)) i) (sym (lt-ltb 0 e.dot (omega arith))) (or_left _ _ h)
kernel_keeps e es i less go (inr h) = has_later e (kernel_of es) i (nat_lt 0 e.dot) (go h)

pub has_kernel : (es : List Entry) (i : Item) → 0 < i.dot → Has es i → Has (kernel_of es) i
has_kernel [] i less h = h
has_kernel (e ∷ es) i less h = kernel_keeps e es i less (λ k. has_kernel es i less k) (or_cases _ _ h)

pub kernel_entries : (g : Grammar) (es : List Entry) → AreEntries g es → AreEntries g (kernel_of es)
kernel_entries g es are = record {
  rising = AllPairs-filter IsEntryBefore (λ (e : Entry). nat_lt 0 e.dot) es are.rising;
  each = All-filter (λ (e : Entry). nat_lt 0 e.dot) (IsEntry g) es are.each;
}

-- what is in a closure with the dot behind a symbol was given
pub closure_given : (g : Grammar) (given : List Entry) {i : Item} → Closure g (λ j. Has given j) i → 0 < i.dot → Has given i
closure_given g given (kept h) less = h
closure_given g given (opened {j = j} c (opens n m before after right dotted front follows)) less = let dot = front.dot in absurd (omega arith)

-- the kernel of a closure of moved entries is what was given
pub kernel_of_closure : (g : Grammar) (kernel es : List Entry) → AreEntries g kernel → All (λ (e : Entry). 0 < e.dot) kernel → AreEntries g es → ((i : Item) → Has es i ↔ Closure g (λ j. Has kernel j) i) → kernel_of es ≡ kernel
kernel_of_closure g kernel es given dots are have =
    let mine = kernel_entries g es are in
    same_entries g (kernel_of es) kernel (rising_of _ mine.rising) (rising_of _ given.rising) mine.each given.each
    (λ i h. let k = kernel_has es i h in closure_given g kernel ((have i).0 k.0) k.1)
    (λ i h. has_kernel es i (given_dot kernel i dots h) ((have i).1 (kept h)))
  where
    dot_cases : (e : Entry) (ks : List Entry) (i : Item) → 0 < e.dot → (Has ks i → 0 < i.dot) → (entry_has e i ≡ true) ⊎ (entries_have ks i ≡ true) → 0 < i.dot
    dot_cases e ks i less go (inl h) = let dot = (entry_parts e i h).1 in omega arith
    dot_cases e ks i less go (inr h) = go h

    given_dot : (ks : List Entry) (i : Item) → All (λ (e : Entry). 0 < e.dot) ks → Has ks i → 0 < i.dot
    given_dot [] i all h = absurd (false≢true h)
    given_dot (e ∷ ks) i all h = dot_cases e ks i (All-head (λ (d : Entry). 0 < d.dot) e ks all) (λ k. given_dot ks i (All-tail (λ (d : Entry). 0 < d.dot) e ks all) k) (or_cases _ _ h)
