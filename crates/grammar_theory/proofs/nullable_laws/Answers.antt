use Rattle.grammar_theory.proofs.NameLaws.{nullable_rule_law, nullable_list_law, nullable_test_law, nullable_size_law}
use Rattle.grammar_theory.proofs.nullable_laws.Goals as goal

pub returns : goal.returns
returns c = record {
  rule = nullable_rule_law;
  list = nullable_list_law;
  test = nullable_test_law;
  size = nullable_size_law;
}
