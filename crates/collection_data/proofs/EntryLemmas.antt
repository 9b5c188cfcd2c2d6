-- Items of entries, and entries that rise.
use Rattle.std.proofs.Common.{◌≡◌, ℕ, zero, suc, ◌<◌, ◌⊎◌, inl, inr, true, false, ◌==◌, IsTrue, List, [], ◌∷◌, ◌++◌, length, get_or, slice_get, Some, All, Contains, refl, sym, subst, ◌∙◌, arith}
use Rattle.std.specs.List.{AllPairs}
use Rattle.std.proofs.lemmas.Bool.{or_left, or_right, or_cases, and_parts, and_from, false≢true, eqb-true, eq-eqb}
use Rattle.std.proofs.lemmas.List.Elements.{Contains-append_left, Contains-append_right, Contains-push}
use Rattle.std.proofs.lemmas.List.Folds.{list_any-append}
use Rattle.grammar_data.specs.TokenSet.{has_token}
use Rattle.item_theory.specs.Items.{Item}
use Rattle.collection_data.specs.declared.entry.Entry.{Entry}
use Rattle.collection_data.specs.Entries.{entry_has, entries_have, IsEntryBefore, EntriesLaw}

pub entry_parts : (e : Entry) (i : Item) → IsTrue (entry_has e i) → (e.rule ≡ i.rule) × (e.dot ≡ i.dot) × IsTrue (has_token e.ahead i.ahead)
entry_parts e i h =
    let first = and_parts (e.rule == i.rule) _ h in
    let second = and_parts (e.dot == i.dot) _ first.1 in
    (eqb-true e.rule i.rule first.0, eqb-true e.dot i.dot second.0, second.1)

pub entry_from : (e : Entry) (i : Item) → e.rule ≡ i.rule → e.dot ≡ i.dot → IsTrue (has_token e.ahead i.ahead) → IsTrue (entry_has e i)
entry_from e i rule dot has = and_from _ _ (eq-eqb e.rule i.rule rule) (and_from _ _ (eq-eqb e.dot i.dot dot) has)

one_entry : (e : Entry) (i : Item) → (entry_has e i ≡ true) ⊎ (false ≡ true) → IsTrue (entry_has e i)
one_entry e i (inl h) = h
one_entry e i (inr h) = absurd (false≢true h)

pub have_pushed : (entries : List Entry) (e : Entry) (i : Item) → IsTrue (entries_have (entries ++ e ∷ []) i) → IsTrue (entries_have entries i) ⊎ IsTrue (entry_has e i)
have_pushed entries e i h = cases (or_cases _ _ (sym (list_any-append (λ (d : Entry). entry_has d i) entries (e ∷ [])) ∙ h))
  where
    cases : (entries_have entries i ≡ true) ⊎ (entries_have (e ∷ []) i ≡ true) → IsTrue (entries_have entries i) ⊎ IsTrue (entry_has e i)
    cases (inl k) = inl k
    cases (inr k) = inr (one_entry e i (or_cases _ _ k))

-- an entry's items are those of its list
pub have_at : (entries : List Entry) (k : ℕ) (d : Entry) (i : Item) → k < length entries → IsTrue (entry_has (get_or entries k d) i) → IsTrue (entries_have entries i)
have_at [] k d i less h = absurd (omega arith)
have_at (e ∷ es) zero d i less h = or_left _ _ h
have_at (e ∷ es) (suc k) d i less h = or_right _ _ (have_at es k d i (omega arith) h)

-- ---- entries that rise

abbrev pub Rising : List Entry → Type 0
Rising [] = Unit {0}
Rising (e ∷ es) = All (IsEntryBefore e) es × Rising es

pub rising_of : (es : List Entry) → AllPairs IsEntryBefore es → Rising es
rising_of [] h = tt
rising_of (e ∷ es) h = (λ k d less. h 0 (suc k) d (omega arith) (omega arith), rising_of es (λ i j d less within. h (suc i) (suc j) d (omega arith) (omega arith)))

-- ---- an element of a list at its place

pub get_at : {X : Type 0} (xs : List X) (k : ℕ) → k < length xs → (x : X) × (slice_get xs k ≡ Some x)
get_at [] k less = absurd (omega arith)
get_at (x ∷ xs) zero less = (x, refl)
get_at (x ∷ xs) (suc k) less = get_at xs k (omega arith)

-- ---- the items of entries

abbrev HasEntry : List Entry → Item → Type 0
HasEntry entries i = (e : Entry) × Contains entries e × IsTrue (entry_has e i)

one_of : (e : Entry) (es : List Entry) (i : Item) → (IsTrue (entries_have es i) → HasEntry es i) → (entry_has e i ≡ true) ⊎ (entries_have es i ≡ true) → HasEntry (e ∷ es) i
one_of e es i go (inl own) = (e, Contains-append_left (e ∷ []) es e (Contains-push [] e), own)
one_of e es i go (inr later) = let found = go later in (found.0, Contains-append_right (e ∷ []) es found.0 found.1, found.2)

has_entry : (entries : List Entry) (i : Item) → IsTrue (entries_have entries i) → HasEntry entries i
has_entry [] i h = absurd (false≢true h)
has_entry (e ∷ es) i h = one_of e es i (λ k. has_entry es i k) (or_cases _ _ h)

pub entries_law : EntriesLaw
entries_law entries i = (
  λ h. let found = has_entry entries i h in let parts = entry_parts found.0 i found.2 in (found.0, found.1, parts.0, parts.1, parts.2),
  λ (e, (k, less, same), rule, dot, has). have_at entries k e i less (subst (λ d. IsTrue (entry_has d i)) (sym same) (entry_from e i rule dot has)),
)
