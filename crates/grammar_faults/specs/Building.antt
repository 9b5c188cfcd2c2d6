-- What keeps a grammar from having tables, in its order; or its canonical collection and tables.
-- Source: Knuth, On the Translation of Languages from Left to Right, 1965; Aho and Ullman, The Theory of Parsing,
-- Translation, and Compiling, volume 1, section 5.2. The order of the faults is this project's own.
use Rattle.std.specs.Prelude.{◌≡◌, ◌≢◌}
use Rattle.grammar_data.specs.Grammar.{Grammar}
use Rattle.item_theory.specs.Items.{HasConflict}
use Rattle.item_theory.specs.Collections.{HasMoreStates}
use Rattle.table_data.specs.declared.limits.TheConstants.{MOST_STATES}
use Rattle.table_data.specs.Tables.{Tables}
use Rattle.table_theory.specs.Canonical.{AreCanonical}
use Rattle.table_theory.specs.Conflicts.{IsFirstConflict}
use Rattle.grammar_theory.specs.UselessNames.{IsUseful, IsLeastUnproductive, IsLeastUnreachable, IsLeastTooLarge}
use Rattle.collection_data.specs.Collection.{CollectionParts, IsCollectionOf, has_item, state_count, step_in}
use Rattle.grammar_faults.specs.declared.conflict.Conflict.{Conflict as ShownConflict}
use Rattle.grammar_faults.specs.declared.fault.GrammarFault.{GrammarFault}
use Rattle.grammar_faults.specs.declared.fault.GrammarFault.TheVariants.{Unproductive, Unreachable, EmptyTooLarge, TooManyStates, Conflict, NoMemory}

-- all names are useful, and the states are few enough
pub record IsSmall (g : Grammar) : Type 0 where
  pub useful : IsUseful g
  pub few : ¬ (HasMoreStates g MOST_STATES)

-- and there is no conflict
pub record IsBuildable (g : Grammar) : Type 0 where
  pub small : IsSmall g
  pub free : ¬ (HasConflict g)

-- the canonical collection and the canonical tables of the grammar
pub record AreBuiltOf (g : Grammar) (c : CollectionParts) (t : Tables) : Type 0 where
  pub collection : IsCollectionOf g c
  pub tables : AreCanonical g (state_count c) (has_item c) (step_in c) t

-- the conflict is the grammar's first
abbrev pub IsShown : Grammar → ShownConflict → Type 0
IsShown g c = IsFirstConflict g c.state c.token c.first c.second

-- the fault is the grammar's first; of want of memory nothing is said
abbrev pub IsFaultOf : Grammar → GrammarFault → Type 0
IsFaultOf g (Unproductive n) = IsLeastUnproductive g n
IsFaultOf g (Unreachable n) = IsLeastUnreachable g n
IsFaultOf g (EmptyTooLarge n) = IsLeastTooLarge g n
IsFaultOf g TooManyStates = IsUseful g × HasMoreStates g MOST_STATES
IsFaultOf g (Conflict c) = IsSmall g × IsShown g c
IsFaultOf g NoMemory = Unit {0}

-- a grammar has one first fault at most
abbrev pub OneFaultLaw : Type 0
OneFaultLaw = (g : Grammar) (one other : GrammarFault) → IsFaultOf g one → IsFaultOf g other → one ≢ NoMemory → other ≢ NoMemory → one ≡ other

-- and none where it has tables
abbrev pub BuildableLaw : Type 0
BuildableLaw = (g : Grammar) (fault : GrammarFault) → IsBuildable g → IsFaultOf g fault → fault ≡ NoMemory
