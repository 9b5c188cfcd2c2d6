use Rattle.std.proofs.Common.{◌≡◌, ◌≢◌, ℕ, take}
use Rattle.collection_data.specs.Collection.{items_in}
use Rattle.table_data.specs.Tables.{act_in}
use Rattle.lr_tables.specs.Filling.{IsRow}
use Rattle.lr_tables.proofs.filling.set_acts.Given as goal

abbrev pub invariant-loop-entry : goal.invariant-loop-entry
invariant-loop-entry l = record {
  row : IsRow l.fn.grammar l.collection (take l.entry-index (items_in l.collection l.state)) l.state l.tables;
  others : (p a : ℕ) → p ≢ l.state → act_in l.tables p a ≡ act_in l.fn.tables p a;
  rest : l.tables ≡ record l.fn.tables { acts = l.tables.acts };
}
