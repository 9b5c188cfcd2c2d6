use Rattle.arm_laws.proofs.ArmLemmas.{opened_law, next_law, look_law, shift_law}
use Rattle.arm_laws.proofs.token_laws.Goals as goal

pub returns : goal.returns
returns c = record {
  opened = opened_law;
  next = next_law;
  look = look_law;
  shift = shift_law;
}
