use Rattle.leaf_laws.proofs.EndLemmas.{wide_law}
use Rattle.leaf_laws.proofs.StepLemmas.{opens_law}
use Rattle.leaf_laws.proofs.leaf_laws.Goals as goal

pub returns : goal.returns
returns c = record {
  opens = opens_law;
  wide = wide_law;
}
