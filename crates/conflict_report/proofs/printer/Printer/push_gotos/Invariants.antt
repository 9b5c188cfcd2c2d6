use Rattle.std.proofs.Common.{◌≡◌, ◌++◌}
use Rattle.std.specs.List.{flat_map, range_with_len}
use Rattle.table_data.specs.Tables.{goto_in}
use Rattle.report_theory.specs.TableTexts.{goto_line}
use Rattle.conflict_report.proofs.printer.Printer.push_gotos.Given as goal

abbrev pub invariant-loop-name : goal.invariant-loop-name
invariant-loop-name l = l.text.items ≡ l.fn.text.items ++ flat_map (λ n. goto_line l.self n (goto_in l.tables l.state n)) (range_with_len 0 l.name)
