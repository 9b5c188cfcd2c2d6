-- What the parts of a collection say of lists and items.
use Rattle.std.proofs.Common.{◌≡◌, ℕ, ◌<◌, IsTrue, List, [], ◌∷◌, ◌++◌, slice_get, Option, Some, None, refl, sym, subst, ◌∙◌, arith}
use Rattle.std.proofs.lemmas.Option.{none-some, get_or_from_slice_get}
use Rattle.grammar_data.specs.declared.rule.Sym.{Sym}
use Rattle.grammar_data.specs.Grammar.{Grammar}
use Rattle.grammar_theory.specs.Rules.{IsInRange}
use Rattle.item_theory.specs.Items.{Item}
use Rattle.item_theory.specs.Chains.{Moves}
use Rattle.item_theory.proofs.StateLaws.{step_law}
use Rattle.item_theory.proofs.CollectionLaws.{collection_items_law, collection_once_law}
use Rattle.collection_data.specs.Collection.{CollectionParts, state_count, items_in, has_item, step_in, IsCollectionOf, StateItemsLaw, NoStepLaw, OneCollectionLaw}
use Rattle.collection_data.specs.Entries.{AreEntries}
use Rattle.collection_data.proofs.SameEntries.{same_entries}
use Rattle.collection_data.proofs.EntryLemmas.{get_at, rising_of}

pub state_items_law : StateItemsLaw
state_items_law g range t is xs q at = collection_items_law g range (state_count t) (has_item t) (step_in t) is.collection xs q at

module _ (g : Grammar) (range : IsInRange g) (t : CollectionParts) (is : IsCollectionOf g t) (q : ℕ) (x : Sym) (less : q < state_count t) where
  word_of : (xs : List Sym) × (slice_get is.collection.words q ≡ Some xs)
  word_of = get_at is.collection.words q (let count = is.collection.count in omega arith)

  stays : step_in t q x ≡ None → (i j : Item) → IsTrue (has_item t q i) → Moves g x i j → ⊥
  stays none i j has move =
      let word = word_of in
      let viable = (step_law g range word.0 x).1 (i, j, (is.collection.items q word.0 word.1 i).0 has, move) in
      let state = is.collection.are_states.every (word.0 ++ x ∷ []) viable in
      none-some state.0 (sym none ∙ (is.collection.steps q state.0 word.0 x word.1).1 (state.1, state.2, state.3))

  no_step : (o : Option ℕ) → step_in t q x ≡ o → ((i j : Item) → IsTrue (has_item t q i) → Moves g x i j → ⊥) → o ≡ None
  no_step None at none = refl
  no_step (Some p) at none =
      let word = word_of in
      let state = (is.collection.steps q p word.0 x word.1).0 at in
      let viable = (is.collection.are_states.are_leading.leading p state.0 state.1).viable in
      let moved = (step_law g range word.0 x).0 (viable.0, (state.2 viable.0).0 viable.1) in
      absurd (none moved.0 moved.1 ((is.collection.items q word.0 word.1 moved.0).1 moved.2) moved.3)

pub no_step_law : NoStepLaw
no_step_law g range t is q x less = (stays g range t is q x less, λ none. no_step g range t is q x less (step_in t q x) refl none)

entries_of : (g : Grammar) (t : CollectionParts) → IsCollectionOf g t → (q : ℕ) → q < state_count t → AreEntries g (items_in t q)
entries_of g t is q less =
    let at = get_at t.states q less in
    subst (λ es. AreEntries g es) (sym (get_or_from_slice_get t.states q at.0 [] at.1)) (is.entries q at.0 at.1)

same_items : (g : Grammar) (c d : CollectionParts) → IsCollectionOf g c → IsCollectionOf g d → (q : ℕ) → q < state_count c → q < state_count d → ((i : Item) → has_item c q i ≡ has_item d q i) → items_in c q ≡ items_in d q
same_items g c d c_is d_is q less other_less same =
    let mine = entries_of g c c_is q less in
    let other = entries_of g d d_is q other_less in
    same_entries g (items_in c q) (items_in d q) (rising_of _ mine.rising) (rising_of _ other.rising) mine.each other.each (λ i has. sym (same i) ∙ has) (λ i has. same i ∙ has)

pub one_collection_law : OneCollectionLaw
one_collection_law g c d c_is d_is =
    let once = collection_once_law g (state_count c) (state_count d) (has_item c) (has_item d) (step_in c) (step_in d) c_is.collection d_is.collection in
    (once.0, λ q less. (same_items g c d c_is d_is q less (let e = once.0 in omega (arith, e, less)) (once.1 q less).0, (once.1 q less).1))
