use Rattle.walk_laws.proofs.StepLemmas.{made_law}
use Rattle.walk_laws.proofs.made_laws.Goals as goal

pub returns : goal.returns
returns c = record {
  made = made_law;
}
