use Rattle.use_theory.proofs.FillLemmas.{fill_walk_law, filled_steps_law}
use Rattle.use_theory.proofs.SupplyLemmas.{kid_by_kid_law, none_supplied_law, supplied_law}
use Rattle.use_theory.proofs.fill_laws.Goals as goal

pub returns : goal.returns
returns c = record {
  walk = fill_walk_law;
  steps = filled_steps_law;
  kid_by_kid = kid_by_kid_law;
  none = none_supplied_law;
  shown = supplied_law;
}
