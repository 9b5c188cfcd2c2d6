use Rattle.templates.proofs.RuleLemmas.{tree_rules}
use Rattle.templates.proofs.rule_law.Goals as goal

pub returns : goal.returns
returns c = tree_rules
