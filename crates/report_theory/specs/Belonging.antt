-- What belongs to a sheet's grammar: conflicts, and tables with their collection.
use Rattle.std.specs.Prelude.{◌≡◌, ℕ, ◌≤◌, List, slice_get, Some}
use Rattle.grammar_data.specs.Grammar.{Grammar}
use Rattle.grammar_theory.specs.Rules.{IsInRange, end_mark}
use Rattle.item_theory.specs.Items.{IsItemOf}
use Rattle.collection_data.specs.declared.entry.Entry.{Entry}
use Rattle.collection_data.specs.Entries.{AreEntries}
use Rattle.collection_data.specs.Collection.{CollectionParts, state_count}
use Rattle.table_data.specs.Tables.{Tables}
use Rattle.table_theory.specs.Conflicts.{IsFirstConflict}
use Rattle.grammar_faults.specs.declared.conflict.Conflict.{Conflict}

-- the token of a conflict is the grammar's, or the end mark, and its items are the grammar's
pub record IsConflictIn (g : Grammar) (c : Conflict) : Type 0 where
  pub token : c.token ≤ end_mark g
  pub first : IsItemOf g c.first
  pub second : IsItemOf g c.second

-- the collection's entries are of the grammar's rules, and the tables have as many states as it has
pub record BelongTo (g : Grammar) (c : CollectionParts) (t : Tables) : Type 0 where
  pub entries : (q : ℕ) (entries : List Entry) → slice_get c.states q ≡ Some entries → AreEntries g entries
  pub states : t.states ≡ state_count c
  pub tokens : t.tokens ≡ g.tokens
  pub names : t.names ≡ g.names

-- the first conflict of a grammar belongs to it
abbrev pub ConflictInLaw : Type 0
ConflictInLaw = (g : Grammar) → IsInRange g → (c : Conflict) → IsFirstConflict g c.state c.token c.first c.second → IsConflictIn g c
