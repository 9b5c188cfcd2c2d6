use Rattle.segment_laws.proofs.EndLemmas.{no_tokens_law, closed_law, closes_parsing_law, ends_parsing_law, number_law}
use Rattle.segment_laws.proofs.end_laws.Goals as goal

pub returns : goal.returns
returns c = record {
  no_tokens = no_tokens_law;
  closed = closed_law;
  closes = closes_parsing_law;
  ends = ends_parsing_law;
  number = number_law;
}
