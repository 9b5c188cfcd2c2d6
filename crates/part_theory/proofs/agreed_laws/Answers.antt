use Rattle.part_theory.proofs.PartLemmas.{agreed_law, none_follows_law, parted_law}
use Rattle.part_theory.proofs.agreed_laws.Goals as goal

pub returns : goal.returns
returns c = record {
  comparable = agreed_law;
  none_follows = none_follows_law;
  parted = parted_law;
}
