use Rattle.std.proofs.Common.{◌++◌, ap, ◌∙◌}
use Rattle.table_data.specs.Tables.{goto_in}
use Rattle.report_theory.specs.TableTexts.{goto_line}
use Rattle.report_theory.proofs.LineLemmas.{next_line}
use Rattle.conflict_report.proofs.printer.Printer.push_gotos.Goals as goal

pub loop-name-preserved : goal.loop-name-preserved
loop-name-preserved c =
    next_line (λ n. goto_line c.args.self.now n (goto_in c.args.tables.now c.args.state n)) c.args.text.now.items c.loop-name.text.items c.push_goto.new.text.items c.loop-name.name c.loop-name.invariant
    (c.in_ok-push_goto.ensures ∙ ap (λ to. c.loop-name.text.items ++ goto_line c.args.self.now c.loop-name.name to) c.goto_name-to.ensures.goto)
