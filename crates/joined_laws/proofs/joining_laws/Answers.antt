use Rattle.joined_laws.proofs.JoiningLemmas.{nodes_start_law, floors_start_law, nodes_whole_law, floors_whole_law, nodes_part_law, floors_part_law}
use Rattle.joined_laws.proofs.MadeLemmas.{made_law}
use Rattle.joined_laws.proofs.joining_laws.Goals as goal

pub returns : goal.returns
returns c = record {
  nodes_start = nodes_start_law;
  floors_start = floors_start_law;
  nodes_whole = nodes_whole_law;
  floors_whole = floors_whole_law;
  nodes_part = nodes_part_law;
  floors_part = floors_part_law;
  made = made_law;
}
