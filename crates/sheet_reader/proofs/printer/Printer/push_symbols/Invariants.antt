use Rattle.std.proofs.Common.{◌≡◌, ◌++◌, map, take}
use Rattle.std.specs.List.{flat_map}
use Rattle.outline_theory.specs.Layout.{symbol_text}
use Rattle.sheet_reader.specs.Printing.{spaced}
use Rattle.sheet_reader.proofs.printer.Printer.push_symbols.Given as goal

abbrev pub invariant-loop-symbol : goal.invariant-loop-symbol
invariant-loop-symbol l = l.text.items ≡ l.fn.text.items ++ flat_map spaced (map (symbol_text l.self.sheet.now) (take l.symbol-index l.symbols))
