use Rattle.core_theory.proofs.CoverLemmas.{start_law, step_law, reorder_law}
use Rattle.core_theory.proofs.RunLemmas.{claim_step_law, join_step_law}
use Rattle.core_theory.proofs.event_laws.Goals as goal

pub returns : goal.returns
returns c = record {
  start = start_law;
  step = step_law;
  reorder = reorder_law;
  claim_step = claim_step_law;
  join_step = join_step_law;
}
