-- The canonical collection of a grammar: its states, numbered by their leading words, the items of each (a test), and
-- the step from the state of a list along a symbol to the state of the list with that symbol added.
-- Source: Knuth, On the Translation of Languages from Left to Right, 1965; Aho and Ullman, The Theory of Parsing,
-- Translation, and Compiling, volume 1, section 5.2.
use Rattle.std.specs.Prelude.{◌≡◌, ℕ, ◌<◌, ◌↔◌, Bool, IsTrue, List, [], ◌∷◌, ◌++◌, length, slice_get, Option, Some, None}
use Rattle.grammar_data.specs.declared.rule.Sym.{Sym}
use Rattle.grammar_data.specs.Grammar.{Grammar}
use Rattle.grammar_theory.specs.Rules.{IsInRange}
use Rattle.item_theory.specs.Items.{Item, IsValid, IsViable, HaveSameItems}
use Rattle.item_theory.specs.LeadingWords.{AreLeading, AreStates}
use Rattle.item_theory.specs.Search.{walk}

-- state `q` is that of this list: the leading word of the number has the same items
abbrev pub IsStateOf : Grammar → List (List Sym) → ℕ → List Sym → Type 0
IsStateOf g words q xs = (ys : List Sym) × (slice_get words q ≡ Some ys) × HaveSameItems g ys xs

pub record IsCollection (g : Grammar) (states : ℕ) (has : ℕ → Item → Bool) (step : ℕ → Sym → Option ℕ) : Type 0 where
  pub words : List (List Sym)
  pub are_states : AreStates g words
  pub count : length words ≡ states
  pub items : (q : ℕ) (xs : List Sym) → slice_get words q ≡ Some xs → (i : Item) → IsTrue (has q i) ↔ IsValid g xs i
  pub steps : (q p : ℕ) (xs : List Sym) (x : Sym) → slice_get words q ≡ Some xs → (step q x ≡ Some p) ↔ IsStateOf g words p (xs ++ x ∷ [])

-- there are more states than this
abbrev pub HasMoreStates : Grammar → ℕ → Type 0
HasMoreStates g limit = (words : List (List Sym)) × AreLeading g words × (limit < length words)

-- a grammar has one collection: two have as many states, and the same items and steps of each
abbrev pub CollectionOnceLaw : Type 0
CollectionOnceLaw = (g : Grammar) (states others : ℕ) (has other_has : ℕ → Item → Bool) (step other_step : ℕ → Sym → Option ℕ) → IsCollection g states has step → IsCollection g others other_has other_step → (states ≡ others) × ((q : ℕ) → q < states → ((i : Item) → has q i ≡ other_has q i) × ((x : Sym) → step q x ≡ other_step q x))

-- a walk from state 0 over a list leads to the state of the list
abbrev pub CollectionWalkLaw : Type 0
CollectionWalkLaw = (g : Grammar) → IsInRange g → (states : ℕ) (has : ℕ → Item → Bool) (step : ℕ → Sym → Option ℕ) (collection : IsCollection g states has step) (xs : List Sym) (q : ℕ) → (walk step (Some 0) xs ≡ Some q) ↔ IsStateOf g collection.words q xs

-- a list is a viable prefix exactly where a walk over it leads to a state
abbrev pub CollectionViableLaw : Type 0
CollectionViableLaw = (g : Grammar) → IsInRange g → (states : ℕ) (has : ℕ → Item → Bool) (step : ℕ → Sym → Option ℕ) → IsCollection g states has step → (xs : List Sym) → IsViable g xs ↔ ((q : ℕ) × (q < states) × (walk step (Some 0) xs ≡ Some q))

-- so it stops exactly where the list is none
abbrev pub CollectionStopLaw : Type 0
CollectionStopLaw = (g : Grammar) → IsInRange g → (states : ℕ) (has : ℕ → Item → Bool) (step : ℕ → Sym → Option ℕ) → IsCollection g states has step → (xs : List Sym) → (walk step (Some 0) xs ≡ None) ↔ (¬ (IsViable g xs))

-- where a walk over a list leads to a state, its items are those that are valid for the list
abbrev pub CollectionItemsLaw : Type 0
CollectionItemsLaw = (g : Grammar) → IsInRange g → (states : ℕ) (has : ℕ → Item → Bool) (step : ℕ → Sym → Option ℕ) → IsCollection g states has step → (xs : List Sym) (q : ℕ) → walk step (Some 0) xs ≡ Some q → (q < states) × ((i : Item) → IsTrue (has q i) ↔ IsValid g xs i)

-- a collection has more states than a limit exactly where the grammar has
abbrev pub MoreStatesLaw : Type 0
MoreStatesLaw = (g : Grammar) (states limit : ℕ) (has : ℕ → Item → Bool) (step : ℕ → Sym → Option ℕ) → IsCollection g states has step → HasMoreStates g limit ↔ (limit < states)
