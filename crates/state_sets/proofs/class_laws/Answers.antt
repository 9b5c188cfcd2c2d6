use Rattle.state_sets.proofs.AgreeLemmas.{class_law}
use Rattle.state_sets.proofs.class_laws.Goals as goal

pub returns : goal.returns
returns c = class_law
