use Rattle.machine_theory.proofs.RunLemmas.{frame_law, error_frame_law, stack_frame_law}
use Rattle.machine_theory.proofs.frame_laws.Goals as goal

pub returns : goal.returns
returns c = record {
  runs = frame_law;
  errors = error_frame_law;
  stacks = stack_frame_law;
}
