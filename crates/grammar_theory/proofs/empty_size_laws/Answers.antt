use Rattle.grammar_theory.proofs.NameLaws.{empty_tree_law, one_size_law, first_round_law, round_law, next_round_law, unsized_law}
use Rattle.grammar_theory.proofs.empty_size_laws.Goals as goal

pub returns : goal.returns
returns c = record {
  tree = empty_tree_law;
  one = one_size_law;
  first_round = first_round_law;
  round = round_law;
  next_round = next_round_law;
  none_below = unsized_law;
}
