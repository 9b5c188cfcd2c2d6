-- The states and the steps of a collection in rows, found for the words that lead to them.
use Rattle.std.specs.Prelude.{◌≡◌, ℕ, ◌+◌, ◌-◌, ◌*◌, ◌<◌, ◌↔◌, if◌then◌else◌, nat_lt, IsTrue, List, [], ◌∷◌, ◌++◌, length, slice_get, Option, Some, None}
use Rattle.grammar_data.specs.declared.rule.Sym.{Sym}
use Rattle.grammar_data.specs.declared.rule.Sym.TheVariants.{Token, Name}
use Rattle.grammar_data.specs.Grammar.{Grammar}
use Rattle.item_theory.specs.Items.{Item, IsValid, IsViable}
use Rattle.item_theory.specs.LeadingWords.{AreStates}
use Rattle.item_theory.specs.Collections.{IsStateOf}
use Rattle.collection_data.specs.declared.entry.Entry.{Entry}
use Rattle.collection_data.specs.Entries.{entries_have}

-- the symbol of a column; behind the last token's column that of the first name
abbrev pub symbol_at : Grammar → ℕ → Sym
symbol_at g column = (if nat_lt column g.tokens then Token column else Name (column - g.tokens))

-- what a step says of the list with the symbol added
abbrev pub IsStepOf : Grammar → List (List Sym) → List Sym → Option ℕ → Type 0
IsStepOf g words xs None = ¬ (IsViable g xs)
IsStepOf g words xs (Some p) = IsStateOf g words p xs

-- the states are those of the words, and each step so far is that from its row's state along its column's symbol
pub record AreRowsOf (g : Grammar) (words : List (List Sym)) (states : List (List Entry)) (steps : List (Option ℕ)) : Type 0 where
  pub count : length words ≡ length states
  pub items : (q : ℕ) (xs : List Sym) (entries : List Entry) → slice_get words q ≡ Some xs → slice_get states q ≡ Some entries → (i : Item) → IsTrue (entries_have entries i) ↔ IsValid g xs i
  pub along : (q column : ℕ) (xs : List Sym) (o : Option ℕ) → column < g.tokens + g.names → slice_get steps (q * (g.tokens + g.names) + column) ≡ Some o → slice_get words q ≡ Some xs → IsStepOf g words (xs ++ symbol_at g column ∷ []) o

-- all states are there, and all steps
pub record AreAllRowsOf (g : Grammar) (states : List (List Entry)) (steps : List (Option ℕ)) : Type 0 where
  pub words : List (List Sym)
  pub are_states : AreStates g words
  pub rows : AreRowsOf g words states steps
  pub size : length steps ≡ length states * (g.tokens + g.names)
