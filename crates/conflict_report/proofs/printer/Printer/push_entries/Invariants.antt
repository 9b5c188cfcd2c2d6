use Rattle.std.proofs.Common.{◌≡◌, ◌++◌, take}
use Rattle.report_theory.specs.TableTexts.{entry_lines}
use Rattle.conflict_report.proofs.printer.Printer.push_entries.Given as goal

abbrev pub invariant-loop-entry : goal.invariant-loop-entry
invariant-loop-entry l = l.text.items ≡ l.fn.text.items ++ entry_lines l.self (take l.entry-index l.entries)
