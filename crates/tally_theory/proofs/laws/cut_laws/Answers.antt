use Rattle.tally_theory.proofs.CutLemmas.{cutting, one_cut, some_cut}
use Rattle.tally_theory.proofs.laws.cut_laws.Goals as goal

pub returns : goal.returns
returns c = record { cutting = cutting; one = one_cut; some = some_cut }
