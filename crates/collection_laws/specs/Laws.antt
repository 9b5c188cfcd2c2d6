-- What isn't refuted of a grammar: that it has a fault or is one that has tables. Which items are valid no test of these
-- definitions decides; so that there is a thing is had as that it is refuted that there is none. A collection that is given
-- has such a test, and so its tables, or a conflict, are found.
use Rattle.std.specs.Prelude.{◌≢◌, ◌⊎◌, ℕ, ◌<◌}
use Rattle.grammar_data.specs.Grammar.{Grammar}
use Rattle.grammar_theory.specs.Rules.{IsInRange}
use Rattle.item_theory.specs.Items.{HasConflict}
use Rattle.item_theory.specs.Collections.{HasMoreStates}
use Rattle.table_data.specs.Tables.{Tables}
use Rattle.table_theory.specs.Canonical.{AreCanonical}
use Rattle.collection_data.specs.Collection.{CollectionParts, IsCollectionOf, has_item, state_count, step_in}
use Rattle.grammar_faults.specs.declared.fault.GrammarFault.{GrammarFault}
use Rattle.grammar_faults.specs.declared.fault.GrammarFault.TheVariants.{NoMemory}
use Rattle.grammar_faults.specs.Building.{IsBuildable, AreBuiltOf, IsFaultOf}

-- it is refuted that a grammar has no fault and isn't one that has tables
abbrev pub SomeFaultLaw : Type 0
SomeFaultLaw = (g : Grammar) → IsInRange g → ((fault : GrammarFault) → fault ≢ NoMemory → ¬ (IsFaultOf g fault)) → ¬ (IsBuildable g) → ⊥

-- where there are no more states than a limit, and each token and the end mark are below 256, it is refuted that there is
-- no canonical collection
abbrev pub SomeCollectionLaw : Type 0
SomeCollectionLaw = (g : Grammar) → IsInRange g → g.tokens < 256 → (limit : ℕ) → ¬ (HasMoreStates g limit) → ((c : CollectionParts) → ¬ (IsCollectionOf g c)) → ⊥

-- with a collection given, what its entries do is decided: it has canonical tables, or the grammar has a conflict
abbrev pub SomeTablesLaw : Type 0
SomeTablesLaw = (g : Grammar) → IsInRange g → (c : CollectionParts) → IsCollectionOf g c → ((t : Tables) × AreCanonical g (state_count c) (has_item c) (step_in c) t) ⊎ HasConflict g

-- it is refuted that a grammar that has tables has no canonical collection with canonical tables
abbrev pub SomeBuiltLaw : Type 0
SomeBuiltLaw = (g : Grammar) → IsInRange g → g.tokens < 256 → IsBuildable g → ((c : CollectionParts) (t : Tables) → ¬ (AreBuiltOf g c t)) → ⊥

-- and that a grammar has neither a fault nor those
abbrev pub SomeGrammarLaw : Type 0
SomeGrammarLaw = (g : Grammar) → IsInRange g → g.tokens < 256 → ((fault : GrammarFault) → fault ≢ NoMemory → ¬ (IsFaultOf g fault)) → ((c : CollectionParts) (t : Tables) → IsBuildable g → ¬ (AreBuiltOf g c t)) → ⊥
