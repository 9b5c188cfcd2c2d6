use Rattle.report_theory.proofs.BelongingLemmas.{entry_within}
use Rattle.conflict_report.proofs.printer.Printer.push_entry.Goals as goal

pub push_rule-requires-clause-rule : goal.push_rule-requires-clause-rule
push_rule-requires-clause-rule c = (entry_within c.args.self.now.grammar c.args.entry.now c.requires).0

pub push_rule-requires-clause-dot : goal.push_rule-requires-clause-dot
push_rule-requires-clause-dot c = (entry_within c.args.self.now.grammar c.args.entry.now c.requires).1
