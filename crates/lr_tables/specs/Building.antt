-- What `build` answers: the canonical tables of a collection, or the first conflict of the grammar.
-- Source: Knuth, On the Translation of Languages from Left to Right, 1965; Aho and Ullman, The Theory of Parsing,
-- Translation, and Compiling, volume 1, section 5.2.
use Rattle.grammar_data.specs.Grammar.{Grammar}
use Rattle.collection_data.specs.Collection.{CollectionParts, has_item, state_count, step_in}
use Rattle.table_data.specs.Tables.{Tables}
use Rattle.table_theory.specs.Canonical.{AreCanonical}
use Rattle.table_theory.specs.Conflicts.{IsFirstConflict}
use Rattle.lr_tables.specs.declared.fault.BuildFault.{BuildFault}
use Rattle.lr_tables.specs.declared.fault.BuildFault.TheVariants.{Conflict, NoMemory}

-- the tables are the canonical ones of the collection
abbrev pub AreTablesOf : Grammar → CollectionParts → Tables → Type 0
AreTablesOf g c t = AreCanonical g (state_count c) (has_item c) (step_in c) t

-- the conflict is the grammar's first
abbrev pub IsBuildFault : Grammar → BuildFault → Type 0
IsBuildFault g (Conflict c) = IsFirstConflict g c.state c.token c.first c.second
IsBuildFault g NoMemory = Unit {0}
