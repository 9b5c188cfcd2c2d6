use Rattle.joined_laws.proofs.JointLemmas.{join_start_law, join_whole_law, join_part_law, join_end_law}
use Rattle.joined_laws.proofs.joint_laws.Goals as goal

pub returns : goal.returns
returns c = record {
  start = join_start_law;
  whole = join_whole_law;
  part = join_part_law;
  end = join_end_law;
}
