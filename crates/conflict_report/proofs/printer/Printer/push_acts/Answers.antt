use Rattle.std.proofs.Common.{◌++◌, ap, ◌∙◌}
use Rattle.table_data.specs.Tables.{act_in}
use Rattle.report_theory.specs.TableTexts.{act_line}
use Rattle.report_theory.proofs.LineLemmas.{next_line}
use Rattle.conflict_report.proofs.printer.Printer.push_acts.Goals as goal

pub loop-token-preserved : goal.loop-token-preserved
loop-token-preserved c =
    next_line (λ a. act_line c.args.self.now a (act_in c.args.tables.now c.args.state a)) c.args.text.now.items c.loop-token.text.items c.push_act.new.text.items c.loop-token.token c.loop-token.invariant
    (c.in_ok-push_act.ensures ∙ ap (λ act. c.loop-token.text.items ++ act_line c.args.self.now c.loop-token.token act) c.act-act.ensures.act)
