use Rattle.grammar_theory.proofs.NameLaws.{productive_tree_law, productive_rule_law, productive_test_law, reachable_law, reachable_test_law}
use Rattle.grammar_theory.proofs.useful_name_laws.Goals as goal

pub returns : goal.returns
returns c = record {
  productive_tree = productive_tree_law;
  productive_rule = productive_rule_law;
  productive_test = productive_test_law;
  reachable = reachable_law;
  reachable_test = reachable_test_law;
}
