use Rattle.use_theory.proofs.SpineLemmas.{spine_more_law, spine_inside_law, spine_opened_law, spine_filled_law}
use Rattle.use_theory.proofs.spine_laws.Goals as goal

pub returns : goal.returns
returns c = record {
  more = spine_more_law;
  inside = spine_inside_law;
  opened = spine_opened_law;
  filled = spine_filled_law;
}
