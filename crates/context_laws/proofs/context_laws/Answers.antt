use Rattle.context_laws.proofs.ContextLemmas.{down_law, end_law}
use Rattle.context_laws.proofs.context_laws.Goals as goal

pub returns : goal.returns
returns c = record {
  down = down_law;
  end = end_law;
}
