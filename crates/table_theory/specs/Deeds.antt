-- What the items of a state do on a token. Items are ordered by rule, then by dot, then by lookahead.
-- Source: Knuth, On the Translation of Languages from Left to Right, 1965; Aho and Ullman, The Theory of Parsing,
-- Translation, and Compiling, volume 1, section 5.2. The order of items is this project's own.
use Rattle.std.specs.Prelude.{◌≡◌, ◌≢◌, ℕ, ◌<◌, ◌⊎◌}
use Rattle.grammar_data.specs.Grammar.{Grammar}
use Rattle.item_theory.specs.Items.{Item, Deed, Does}

abbrev pub IsItemBefore : Item → Item → Type 0
IsItemBefore i j = (i.rule < j.rule) ⊎ ((i.rule ≡ j.rule) × ((i.dot < j.dot) ⊎ ((i.dot ≡ j.dot) × (i.ahead < j.ahead))))

-- the same item, or one before it
abbrev pub IsItemUpTo : Item → Item → Type 0
IsItemUpTo i j = (i ≡ j) ⊎ IsItemBefore i j

-- some item of the set does the deed on the token
abbrev pub HasDeed : Grammar → (Item → Type 0) → ℕ → Deed → Type 0
HasDeed g set a deed = (i : Item) × set i × Does g i a deed

-- no item of the set does anything on the token
abbrev pub IsIdle : Grammar → (Item → Type 0) → ℕ → Type 0
IsIdle g set a = (deed : Deed) → HasDeed g set a deed → ⊥

-- the item is up to each item of the set that acts on the token
abbrev pub IsLeastToAct : Grammar → (Item → Type 0) → ℕ → Item → Type 0
IsLeastToAct g set a first = (i : Item) (deed : Deed) → set i → Does g i a deed → IsItemUpTo first i

-- the item is up to each item of the set that does something else than the deed on the token
abbrev pub IsLeastToDiffer : Grammar → (Item → Type 0) → ℕ → Deed → Item → Type 0
IsLeastToDiffer g set a deed second = (i : Item) (other : Deed) → set i → Does g i a other → other ≢ deed → IsItemUpTo second i

-- of two items one is before the other, or they are the same
abbrev pub ItemTotalLaw : Type 0
ItemTotalLaw = (i j : Item) → (i ≡ j) ⊎ (IsItemBefore i j ⊎ IsItemBefore j i)

-- what is before an item is before each item that this one is before
abbrev pub ItemTransitiveLaw : Type 0
ItemTransitiveLaw = (i j k : Item) → IsItemBefore i j → IsItemBefore j k → IsItemBefore i k

-- no item is before itself
abbrev pub ItemIrreflexiveLaw : Type 0
ItemIrreflexiveLaw = (i : Item) → IsItemBefore i i → ⊥
