-- The canonical collection of a grammar: the entries of each state, and the steps of each, in rows.
use Rattle.std.specs.Prelude.{◌≡◌, ℕ, ◌+◌, ◌*◌, ◌<◌, ◌↔◌, nat_lt, Bool, IsTrue, if◌then◌else◌, List, [], length, slice_get, slice_index_or, Option, Some, None}
use Rattle.std.specs.Option.{option_and_then}
use Rattle.grammar_data.specs.declared.rule.Sym.{Sym}
use Rattle.grammar_data.specs.declared.rule.Sym.TheVariants.{Token, Name}
use Rattle.grammar_data.specs.Grammar.{Grammar}
use Rattle.grammar_theory.specs.Rules.{IsInRange}
use Rattle.item_theory.specs.Items.{Item, IsValid}
use Rattle.item_theory.specs.Chains.{Moves}
use Rattle.item_theory.specs.Search.{walk}
use Rattle.item_theory.specs.Collections.{IsCollection}
use Rattle.collection_data.specs.declared.entry.Entry.{Entry}
use Rattle.collection_data.specs.Entries.{entries_have, AreEntries}

-- how many tokens and names there are; the entries of each state; and the steps, one state's after the other's, each
-- with those along the tokens and then those along the names
pub record CollectionParts : Type 0 where
  pub tokens : ℕ
  pub names : ℕ
  pub states : List (List Entry)
  pub steps : List (Option ℕ)

abbrev pub state_count : CollectionParts → ℕ
state_count t = length t.states

-- the entries of a state
abbrev pub items_in : CollectionParts → ℕ → List Entry
items_in t q = slice_index_or t.states q []

-- whether the item is one of the state's
abbrev pub has_item : CollectionParts → ℕ → Item → Bool
has_item t q i = entries_have (items_in t q) i

abbrev pub step_at : CollectionParts → ℕ → ℕ → Option ℕ
step_at t q column = slice_index_or t.steps (q * (t.tokens + t.names) + column) None

-- where in a state's row a symbol stands: the tokens first, then the names; nowhere what is no symbol of the grammar
abbrev pub column_of : ℕ → ℕ → Sym → Option ℕ
column_of tokens names (Token a) = (if nat_lt a tokens then Some a else None)
column_of tokens names (Name n) = (if nat_lt n names then Some (tokens + n) else None)

-- the step from a state along a symbol; there is none along what is no symbol of the grammar
abbrev pub step_in : CollectionParts → ℕ → Sym → Option ℕ
step_in t q x = option_and_then (λ column. step_at t q column) (column_of t.tokens t.names x)

-- the parts are those of the canonical collection of the grammar
pub record IsCollectionOf (g : Grammar) (t : CollectionParts) : Type 0 where
  pub collection : IsCollection g (state_count t) (has_item t) (step_in t)
  pub entries : (q : ℕ) (entries : List Entry) → slice_get t.states q ≡ Some entries → AreEntries g entries
  pub tokens : t.tokens ≡ g.tokens
  pub names : t.names ≡ g.names

-- where a walk over a list leads to a state, the state's items are those that are valid for the list
abbrev pub StateItemsLaw : Type 0
StateItemsLaw = (g : Grammar) → IsInRange g → (t : CollectionParts) → IsCollectionOf g t → (xs : List Sym) (q : ℕ) → walk (step_in t) (Some 0) xs ≡ Some q → (q < state_count t) × ((i : Item) → IsTrue (has_item t q i) ↔ IsValid g xs i)

-- there is no step from a state along a symbol exactly where no item of the state has its dot before the symbol
abbrev pub NoStepLaw : Type 0
NoStepLaw = (g : Grammar) → IsInRange g → (t : CollectionParts) → IsCollectionOf g t → (q : ℕ) (x : Sym) → q < state_count t → (step_in t q x ≡ None) ↔ ((i j : Item) → IsTrue (has_item t q i) → Moves g x i j → ⊥)

-- a grammar has one collection: as many states, and in each the same entries and the same steps
abbrev pub OneCollectionLaw : Type 0
OneCollectionLaw = (g : Grammar) (c d : CollectionParts) → IsCollectionOf g c → IsCollectionOf g d → (state_count c ≡ state_count d) × ((q : ℕ) → q < state_count c → (items_in c q ≡ items_in d q) × ((x : Sym) → step_in c q x ≡ step_in d q x))
