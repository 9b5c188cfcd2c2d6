use Rattle.walk_laws.proofs.StepLemmas.{opened_walk_law, looked_walk_law, shifted_walk_law, reduced_walk_law, floor_walk_law, adds_more_law}
use Rattle.walk_laws.proofs.step_laws.Goals as goal

pub returns : goal.returns
returns c = record {
  opened = opened_walk_law;
  looked = looked_walk_law;
  shifted = shifted_walk_law;
  reduced = reduced_walk_law;
  floor_opened = floor_walk_law;
  adds_more = adds_more_law;
}
