use Rattle.leaf_laws.proofs.PartLemmas.{none_part_law, several_part_law, last_part_law, closes_law, stands_law}
use Rattle.leaf_laws.proofs.closing_laws.Goals as goal

pub returns : goal.returns
returns c = record {
  none = none_part_law;
  several = several_part_law;
  last = last_part_law;
  closes = closes_law;
  stands = stands_law;
}
