-- Tables as contracts see them.
use Rattle.table_data.specs.Tables.{Tables}
use Rattle.lr_machine.specs.declared.tables.Tables.TheInside.{Inside}

abbrev pub parts_of : Inside → Tables
parts_of s = record {
  tokens = s.tokens;
  names = s.names;
  states = s.states;
  rules = s.rules.items;
  acts = s.acts.items;
  gotos = s.gotos.items;
}
