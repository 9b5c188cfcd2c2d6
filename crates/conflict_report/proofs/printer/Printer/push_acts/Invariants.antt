use Rattle.std.proofs.Common.{◌≡◌, ◌++◌}
use Rattle.std.specs.List.{flat_map, range_with_len}
use Rattle.table_data.specs.Tables.{act_in}
use Rattle.report_theory.specs.TableTexts.{act_line}
use Rattle.conflict_report.proofs.printer.Printer.push_acts.Given as goal

abbrev pub invariant-loop-token : goal.invariant-loop-token
invariant-loop-token l = l.text.items ≡ l.fn.text.items ++ flat_map (λ a. act_line l.self a (act_in l.tables l.state a)) (range_with_len 0 l.token)
