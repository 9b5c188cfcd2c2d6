use Rattle.grammar_theory.proofs.DerivationLaws.{append_law, split_law, fold_law, more_rules_law, word_law, steps_law, tokens_law, end_law}
use Rattle.grammar_theory.proofs.derivation_laws.Goals as goal

pub returns : goal.returns
returns c = record {
  append = append_law;
  split = split_law;
  fold = fold_law;
  more_rules = more_rules_law;
  word = word_law;
  steps = steps_law;
  tokens = tokens_law;
  end = end_law;
}
