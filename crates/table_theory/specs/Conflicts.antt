-- The first conflict of a grammar: in the least state that has one, on its least token there, with the least item that
-- acts on the token, and the least item whose deed on it is another.
-- Source: conflicts are those of Knuth, On the Translation of Languages from Left to Right, 1965; which of them is the
-- first is this project's own.
use Rattle.std.specs.Prelude.{◌≡◌, ℕ, ◌<◌, List, slice_get, Some}
use Rattle.grammar_data.specs.declared.rule.Sym.{Sym}
use Rattle.grammar_data.specs.Grammar.{Grammar}
use Rattle.item_theory.specs.Items.{Item, IsValid, IsConflict, HasConflict}
use Rattle.item_theory.specs.LeadingWords.{AreStates}
use Rattle.table_theory.specs.Deeds.{IsLeastToAct, IsLeastToDiffer}

-- the state of this leading word has a conflict on the token
abbrev pub HasConflictOn : Grammar → List (List Sym) → ℕ → ℕ → Type 0
HasConflictOn g words q a = (xs : List Sym) × (slice_get words q ≡ Some xs) × (first : Item) × (second : Item) × IsConflict g xs a first second

pub record IsFirstConflict (g : Grammar) (q a : ℕ) (first second : Item) : Type 0 where
  pub words : List (List Sym)
  pub word : List Sym
  pub are_states : AreStates g words
  pub at : slice_get words q ≡ Some word
  pub conflict : IsConflict g word a first second
  pub least_state : (p b : ℕ) → p < q → HasConflictOn g words p b → ⊥
  pub least_token : (b : ℕ) → b < a → HasConflictOn g words q b → ⊥
  pub least_first : IsLeastToAct g (IsValid g word) a first
  pub least_second : IsLeastToDiffer g (IsValid g word) a conflict.first_deed second

-- a grammar has one first conflict at most
abbrev pub FirstConflictOnceLaw : Type 0
FirstConflictOnceLaw = (g : Grammar) (q p a b : ℕ) (first second third fourth : Item) → IsFirstConflict g q a first second → IsFirstConflict g p b third fourth → (q ≡ p) × (a ≡ b) × (first ≡ third) × (second ≡ fourth)

-- and it is a conflict
abbrev pub FirstConflictLaw : Type 0
FirstConflictLaw = (g : Grammar) (q a : ℕ) (first second : Item) → IsFirstConflict g q a first second → HasConflict g
