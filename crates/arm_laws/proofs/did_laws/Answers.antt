use Rattle.arm_laws.proofs.ArmLemmas.{did_tells_law}
use Rattle.arm_laws.proofs.did_laws.Goals as goal

pub returns : goal.returns
returns c = record { tells = did_tells_law }
