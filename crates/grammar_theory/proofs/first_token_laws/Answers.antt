use Rattle.grammar_theory.proofs.NameLaws.{first_only_law, first_law, follows_only_law, follows_law, found_parts_law, first_rule_only_law, first_rule_law, first_table_law}
use Rattle.grammar_theory.proofs.first_token_laws.Goals as goal

pub returns : goal.returns
returns c = record {
  first_only = first_only_law;
  first = first_law;
  follows_only = follows_only_law;
  follows = follows_law;
  found_parts = found_parts_law;
  rule_only = first_rule_only_law;
  rule = first_rule_law;
  table = first_table_law;
}
