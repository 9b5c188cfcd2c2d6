-- The text of a grammar's tables is one.
use Rattle.std.specs.Prelude.{◌≡◌}
use Rattle.sheet_data.specs.Sheet.{Sheet}
use Rattle.collection_data.specs.Collection.{CollectionParts, IsCollectionOf, has_item, state_count, step_in}
use Rattle.table_data.specs.Tables.{Tables}
use Rattle.table_theory.specs.Canonical.{AreCanonical}
use Rattle.report_theory.specs.TableTexts.{tables_text}

-- whichever collection and canonical tables of a sheet's grammar are printed, the text is the same
abbrev pub OneTextLaw : Type 0
OneTextLaw = (sheet : Sheet) (c d : CollectionParts) (t u : Tables) → IsCollectionOf sheet.grammar c → IsCollectionOf sheet.grammar d → AreCanonical sheet.grammar (state_count c) (has_item c) (step_in c) t → AreCanonical sheet.grammar (state_count d) (has_item d) (step_in d) u → tables_text sheet c t ≡ tables_text sheet d u
