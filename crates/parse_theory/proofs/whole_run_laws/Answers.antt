use Rattle.parse_theory.proofs.WholeLemmas.{whole_law, sentence_or_wrong_law}
use Rattle.parse_theory.proofs.whole_run_laws.Goals as goal

pub returns : goal.returns
returns c = record {
  whole = whole_law;
  sentence_or_wrong = sentence_or_wrong_law;
}
