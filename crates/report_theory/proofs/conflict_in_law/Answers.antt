use Rattle.report_theory.proofs.BelongingLemmas.{first_conflict}
use Rattle.report_theory.proofs.conflict_in_law.Goals as goal

pub returns : goal.returns
returns c = first_conflict
