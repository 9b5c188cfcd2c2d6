use Rattle.lawful_theory.proofs.CanonicalLemmas.{canonical_lawful_law, one_grammar_law, lawful_law}
use Rattle.lawful_theory.proofs.lawful_laws.Goals as goal

pub returns : goal.returns
returns c = record {
  canonical = canonical_lawful_law;
  one_grammar = one_grammar_law;
  lawful = lawful_law;
}
