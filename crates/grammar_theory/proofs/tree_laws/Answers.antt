use Rattle.grammar_theory.proofs.DerivationLaws.{trees_law, tree_law, sentence_law}
use Rattle.grammar_theory.proofs.tree_laws.Goals as goal

pub returns : goal.returns
returns c = record {
  trees = trees_law;
  tree = tree_law;
  sentence = sentence_law;
}
