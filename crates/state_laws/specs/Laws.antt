-- What isn't refuted of a grammar whose states are few: that it has the list of their leading words, and a first
-- conflict where it has one. Which lists are viable, and which have the same items, no test of these definitions
-- decides; so that there is one is had as that it is refuted that there is none.
use Rattle.std.specs.Prelude.{ℕ, List}
use Rattle.grammar_data.specs.declared.rule.Sym.{Sym}
use Rattle.grammar_data.specs.Grammar.{Grammar}
use Rattle.grammar_theory.specs.Rules.{IsInRange}
use Rattle.item_theory.specs.Items.{Item, HasConflict}
use Rattle.item_theory.specs.LeadingWords.{AreStates}
use Rattle.item_theory.specs.Collections.{HasMoreStates}
use Rattle.table_theory.specs.Conflicts.{IsFirstConflict}

-- where there are no more states than a limit, it is refuted that no list has the leading words of all states
abbrev pub SomeStatesLaw : Type 0
SomeStatesLaw = (g : Grammar) → IsInRange g → (limit : ℕ) → ¬ (HasMoreStates g limit) → ((words : List (List Sym)) → ¬ (AreStates g words)) → ⊥

-- and where there is a conflict besides, that none is the first
abbrev pub SomeConflictLaw : Type 0
SomeConflictLaw = (g : Grammar) → IsInRange g → (limit : ℕ) → ¬ (HasMoreStates g limit) → HasConflict g → ((q a : ℕ) (first second : Item) → ¬ (IsFirstConflict g q a first second)) → ⊥
