-- It isn't refuted that a grammar with few states has its collection: the entries of each state, and the steps in rows.
use Rattle.std.proofs.Common.{◌≡◌, ℕ, ◌+◌, ◌*◌, ◌<◌, ◌↔◌, ⊎_elim, IsTrue, List, [], ◌∷◌, ◌++◌, length, get_or, slice_get, Option, Some, None, refl, sym, ap, subst, ◌∙◌, arith}
use Rattle.std.proofs.lemmas.Option.{slice_get-get_or, slice_get_within, same_Some}
use Rattle.grammar_data.specs.declared.rule.Sym.{Sym}
use Rattle.grammar_data.specs.Grammar.{Grammar}
use Rattle.grammar_theory.specs.Rules.{IsInRange}
use Rattle.item_theory.specs.Items.{Item, IsValid}
use Rattle.item_theory.specs.LeadingWords.{AreStates}
use Rattle.item_theory.specs.Collections.{IsStateOf}
use Rattle.collection_data.specs.declared.entry.Entry.{Entry}
use Rattle.collection_data.specs.Entries.{entries_have, AreEntries}
use Rattle.collection_data.specs.Rows.{symbol_at, IsStepOf, AreAllRowsOf}
use Rattle.collection_data.specs.Collection.{CollectionParts, IsCollectionOf}
use Rattle.collection_data.proofs.RowLemmas.{row_once}
use Rattle.collection_data.proofs.MadeCollection.{collection_of}
use Rattle.state_laws.proofs.RefutedLemmas.{NotRefuted, decided}
use Rattle.state_laws.proofs.FindingLemmas.{states_found}
use Rattle.collection_laws.specs.Laws.{SomeCollectionLaw}
use Rattle.collection_laws.proofs.ListLemmas.{HasList, list_found}
use Rattle.collection_laws.proofs.EntryLemmas.{entries_found}

-- ---- the collection

module _ (g : Grammar) (range : IsInRange g) (few : g.tokens < 256) (words : List (List Sym)) (states : AreStates g words) where
  -- the entries are those of the state
  record IsStateAt (q : ℕ) (es : List Entry) : Type 0 where
    pub are : (xs : List Sym) → slice_get words q ≡ Some xs → AreEntries g es
    pub have : (xs : List Sym) → slice_get words q ≡ Some xs → (i : Item) → IsTrue (entries_have es i) ↔ IsValid g xs i

  state_found : (q : ℕ) → q < length words → NotRefuted ((es : List Entry) × IsStateAt q es)
  state_found q less refuted = entries_found g range few (get_or words q []) (λ found. refuted (
    found.0,
    record {
      are = λ xs at. found.1;
      have = λ xs at. subst (λ l. (i : Item) → IsTrue (entries_have found.0 i) ↔ IsValid g l i) (same_Some (get_or words q []) xs (sym (slice_get-get_or words q [] less) ∙ at)) found.2;
    },
  ))

  abbrev width : ℕ
  width = g.tokens + g.names

  -- the step is that of this place of the rows
  abbrev IsStepAt : ℕ → Option ℕ → Type 0
  IsStepAt k o = (q column : ℕ) (xs : List Sym) → column < width → k ≡ q * width + column → slice_get words q ≡ Some xs → IsStepOf g words (xs ++ symbol_at g column ∷ []) o

  -- there is a step at the place
  record HasStepAt (k : ℕ) : Type 0 where
    pub to : ℕ
    pub from : ℕ
    pub column : ℕ
    pub xs : List Sym
    pub small : column < width
    pub place : k ≡ from * width + column
    pub at : slice_get words from ≡ Some xs
    pub state : IsStateOf g words to (xs ++ symbol_at g column ∷ [])

  step_at_place : (k : ℕ) (step : HasStepAt k) → IsStepAt k (Some step.to)
  step_at_place k step q column xs small place at =
      let same = row_once step.from step.column q column width step.small small (sym step.place ∙ place) in
      let word : step.xs ≡ xs = same_Some step.xs xs (sym step.at ∙ ap (slice_get words) same.0 ∙ at) in
      subst (λ l. IsStateOf g words step.to (l ++ symbol_at g column ∷ [])) word
      (subst (λ c. IsStateOf g words step.to (step.xs ++ symbol_at g c ∷ [])) same.1 step.state)

  no_step_at_place : (k : ℕ) → (HasStepAt k → ⊥) → IsStepAt k None
  no_step_at_place k none q column xs small place at viable =
      let (p, ys, there, same) = states.every (xs ++ symbol_at g column ∷ []) viable in
      none (record { to = p; from = q; column = column; xs = xs; small = small; place = place; at = at; state = (ys, there, same) })

  step_found : (k : ℕ) → NotRefuted ((o : Option ℕ) × IsStepAt k o)
  step_found k refuted = decided (HasStepAt k) (λ d. ⊎_elim
      (λ step. refuted (Some step.to, step_at_place k step))
      (λ none. refuted (None, no_step_at_place k none))
      d)

  abbrev HasCollection : Type 0
  HasCollection = (c : CollectionParts) × IsCollectionOf g c

  module _ (sets : HasList IsStateAt (length words)) (steps : HasList IsStepAt (length words * width)) where
    word_at : (q : ℕ) → q < length sets.0 → slice_get words q ≡ Some (get_or words q [])
    word_at q less = slice_get-get_or words q [] (let count = sets.1 in omega arith)

    are_entries : (q : ℕ) (es : List Entry) → slice_get sets.0 q ≡ Some es → AreEntries g es
    are_entries q es at = (sets.2 q es at).are (get_or words q []) (word_at q (slice_get_within sets.0 q es at))

    searched : AreAllRowsOf g sets.0 steps.0
    searched = record {
      words = words;
      are_states = states;
      rows = record {
        count = sym sets.1;
        items = λ q xs es at there. (sets.2 q es there).have xs at;
        along = λ q column xs o small there at. steps.2 (q * width + column) o there q column xs small refl at;
      };
      size = steps.1 ∙ ap (λ n. n * width) (sym sets.1);
    }

    made : HasCollection
    made = (
      record { tokens = g.tokens; names = g.names; states = sets.0; steps = steps.0 },
      collection_of g range (record { tokens = g.tokens; names = g.names; states = sets.0; steps = steps.0 }) refl refl searched are_entries,
    )

  pub collection_found : NotRefuted HasCollection
  collection_found refuted =
      list_found IsStateAt (length words) state_found
      (λ sets. list_found IsStepAt (length words * width) (λ k less. step_found k)
      (λ steps. refuted (made sets steps)))

pub some_collection : SomeCollectionLaw
some_collection g range few limit small none =
    states_found g range limit small (λ states. collection_found g range few states.0 states.1 (λ found. none found.0 found.1))
