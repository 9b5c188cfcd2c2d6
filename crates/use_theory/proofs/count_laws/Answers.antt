use Rattle.use_theory.proofs.CountLemmas.{counted_law, joined_law, taken_out_law}
use Rattle.use_theory.proofs.count_laws.Goals as goal

pub returns : goal.returns
returns c = record {
  counted = counted_law;
  joined = joined_law;
  taken_out = taken_out_law;
}
