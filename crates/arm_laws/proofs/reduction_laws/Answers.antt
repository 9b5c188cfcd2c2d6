use Rattle.arm_laws.proofs.ArmLemmas.{reduce_law}
use Rattle.arm_laws.proofs.OpeningLemmas.{floor_opened_law}
use Rattle.arm_laws.proofs.reduction_laws.Goals as goal

pub returns : goal.returns
returns c = record {
  within = reduce_law;
  floor_opened = floor_opened_law;
}
