use Rattle.look_laws.proofs.DeathLemmas.{look_start_law, stuck_part_law}
use Rattle.look_laws.proofs.look_part_laws.Goals as goal

pub returns : goal.returns
returns c = record {
  start = look_start_law;
  stuck = stuck_part_law;
}
