use Rattle.use_theory.proofs.KeptLemmas.{same_walk_law, same_shown_law, kept_then_law, kept_by_law}
use Rattle.use_theory.proofs.kept_laws.Goals as goal

pub returns : goal.returns
returns c = record {
  walk = same_walk_law;
  shown = same_shown_law;
  then = kept_then_law;
  by_change = kept_by_law;
}
