use Rattle.std.proofs.Common.{◌≡◌, ◌++◌, take}
use Rattle.report_theory.specs.ItemTexts.{symbols_text}
use Rattle.conflict_report.proofs.printer.Printer.push_symbols.Given as goal

abbrev pub invariant-loop-symbol : goal.invariant-loop-symbol
invariant-loop-symbol l = l.text.items ≡ l.fn.text.items ++ symbols_text l.self (take l.symbol-index l.symbols)
