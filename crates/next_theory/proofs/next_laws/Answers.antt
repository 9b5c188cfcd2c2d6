use Rattle.next_theory.proofs.NextLemmas.{next_back_law, next_deed_law, next_open_law, next_close_law, next_sentence_law}
use Rattle.next_theory.proofs.next_laws.Goals as goal

pub returns : goal.returns
returns c = record {
  back = next_back_law;
  deed = next_deed_law;
  opening = next_open_law;
  closing = next_close_law;
  sentence = next_sentence_law;
}
