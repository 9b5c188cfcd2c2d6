-- The parts of a sheet, as its fields keep them.
use Rattle.std.specs.Prelude.{map}
use Rattle.sheet_data.specs.Sheet.{Sheet}
use Rattle.sheet_reader.specs.declared.sheet.Sheet.TheInside.{Inside}

abbrev pub parts_of : Inside → Sheet
parts_of s = record {
  decls = s.decls.items;
  literals = s.literals.items;
  names = s.names.items;
  grammar = s.grammar;
  templates = map (λ t. t.items) s.templates.items;
  declares = map (λ t. t.items) s.declares.items;
}
