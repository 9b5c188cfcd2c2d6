-- Clashes: conflicts as the items of the states of a collection show them.
use Rattle.std.specs.Prelude.{◌≢◌, ℕ, ◌<◌, ◌↔◌, Bool, IsTrue, Option}
use Rattle.grammar_data.specs.declared.rule.Sym.{Sym}
use Rattle.grammar_data.specs.Grammar.{Grammar}
use Rattle.item_theory.specs.Items.{Item, Deed, Does, HasConflict}
use Rattle.item_theory.specs.Collections.{IsCollection}
use Rattle.table_theory.specs.Deeds.{HasDeed, IsLeastToAct, IsLeastToDiffer}
use Rattle.table_theory.specs.Conflicts.{IsFirstConflict}

-- two items of the set do different things on the token
abbrev pub HasClash : Grammar → (Item → Type 0) → ℕ → Type 0
HasClash g set a = (first : Deed) × (second : Deed) × HasDeed g set a first × HasDeed g set a second × (first ≢ second)

-- the items of a state of a collection
abbrev pub ItemsOf : (ℕ → Item → Bool) → ℕ → Item → Type 0
ItemsOf has q i = IsTrue (has q i)

-- the first conflict as the items of the states show it
pub record IsFirstClash (g : Grammar) (has : ℕ → Item → Bool) (q a : ℕ) (first second : Item) : Type 0 where
  pub deed : Deed
  pub other : Deed
  pub first_has : IsTrue (has q first)
  pub second_has : IsTrue (has q second)
  pub first_does : Does g first a deed
  pub second_does : Does g second a other
  pub differ : deed ≢ other
  pub least_state : (p b : ℕ) → p < q → HasClash g (ItemsOf has p) b → ⊥
  pub least_token : (b : ℕ) → b < a → HasClash g (ItemsOf has q) b → ⊥
  pub least_first : IsLeastToAct g (ItemsOf has q) a first
  pub least_second : IsLeastToDiffer g (ItemsOf has q) a deed second

-- in a collection of the grammar it is found by the items of the states
abbrev pub FirstClashLaw : Type 0
FirstClashLaw = (g : Grammar) (states : ℕ) (has : ℕ → Item → Bool) (step : ℕ → Sym → Option ℕ) → IsCollection g states has step → (q a : ℕ) (first second : Item) → q < states → IsFirstClash g has q a first second ↔ IsFirstConflict g q a first second

-- a grammar has a conflict exactly where some state of its collection has two items that do different things on a token
abbrev pub ClashLaw : Type 0
ClashLaw = (g : Grammar) (states : ℕ) (has : ℕ → Item → Bool) (step : ℕ → Sym → Option ℕ) → IsCollection g states has step → HasConflict g ↔ ((q : ℕ) × (q < states) × (a : ℕ) × HasClash g (ItemsOf has q) a)
