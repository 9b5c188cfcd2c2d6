use Rattle.std.proofs.Common.{◌≡◌, ◌++◌, take}
use Rattle.std.specs.List.{flat_map}
use Rattle.outline_theory.specs.Layout.{line_text, rule_lines}
use Rattle.sheet_reader.proofs.printer.Printer.push_rules.Given as goal

abbrev pub invariant-loop-number : goal.invariant-loop-number
invariant-loop-number l = l.text.items ≡ l.fn.text.items ++ flat_map line_text (take l.number (rule_lines l.self.sheet.now l.self.sheet.now.grammar.rules l.self.sheet.now.templates l.self.sheet.now.declares))
