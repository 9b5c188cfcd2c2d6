use Rattle.join_theory.proofs.FloorLaws.{start_law, whole_law, part_law, end_law}
use Rattle.join_theory.proofs.floor_laws.Goals as goal

pub returns : goal.returns
returns c = record {
  start = start_law;
  whole = whole_law;
  part = part_law;
  end = end_law;
}
