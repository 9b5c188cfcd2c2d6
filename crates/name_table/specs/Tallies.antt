-- What contracts see of a table of names: its rows.
use Rattle.std.specs.Prelude.{ℕ, List, map}
use Rattle.std.specs.Borrow.{Bor}
use Rattle.translation_theory.specs.DeclaredNames.{Row}
use Rattle.name_table.specs.declared.row.Row.{Row as RowFields}
use Rattle.name_table.specs.declared.tally.Tally.{Tally}

-- the row of an entry
abbrev pub row_of_entry : Bor (List ℕ) × Tally → Row
row_of_entry entry = record { text = entry.0.now; line = entry.1.line; times = entry.1.times }

abbrev pub rows_of_entries : List (Bor (List ℕ) × Tally) → List Row
rows_of_entries entries = map row_of_entry entries

-- what contracts see of a row that is handed out
abbrev pub row_seen : RowFields → Row
row_seen row = record { text = row.text.now; line = row.line; times = row.times }
