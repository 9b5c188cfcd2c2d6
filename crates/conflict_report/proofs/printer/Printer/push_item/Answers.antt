use Rattle.std.proofs.Common.{◌≤◌, length, sym, subst}
use Rattle.item_theory.specs.Items.{Item}
use Rattle.report_theory.specs.ItemTexts.{rule_at}
use Rattle.report_theory.proofs.BelongingLemmas.{item_within}
use Rattle.conflict_report.proofs.printer.Printer.push_item.Goals as goal

pub push_rule-requires-clause-dot : goal.push_rule-requires-clause-dot
push_rule-requires-clause-dot c =
    let g = c.args.self.now.grammar in
    subst (λ (i : Item). i.dot ≤ length (rule_at g i.rule).1) (sym c.item.view_is) (item_within g c.args.item.now c.requires).1
