use Rattle.tally_theory.proofs.AskedLemmas.{one_asked, some_asked}
use Rattle.tally_theory.proofs.laws.answer_laws.Goals as goal

pub returns : goal.returns
returns c = record { one = one_asked; some = some_asked }
