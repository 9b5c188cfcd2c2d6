use Rattle.state_laws.proofs.FindingLemmas.{some_states}
use Rattle.state_laws.proofs.FirstLemmas.{some_conflict}
use Rattle.state_laws.proofs.state_existence_laws.Goals as goal

pub returns : goal.returns
returns c = record {
  states = some_states;
  conflict = some_conflict;
}
