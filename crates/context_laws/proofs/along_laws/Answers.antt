use Rattle.context_laws.proofs.AlongLemmas.{size_law, along_law}
use Rattle.context_laws.proofs.along_laws.Goals as goal

pub returns : goal.returns
returns c = record {
  size = size_law;
  along = along_law;
}
