use Rattle.tree_theory.proofs.ShownLemmas.{one_shown_law, refit_law, grow_law}
use Rattle.tree_theory.proofs.tree_laws.Goals as goal

pub returns : goal.returns
returns c = record {
  one_shown = one_shown_law;
  refit = refit_law;
  grow = grow_law;
}
