use Rattle.seam_theory.proofs.MoveLemmas.{any_order_law, seam_walked_law, seam_grown_law}
use Rattle.seam_theory.proofs.move_laws.Goals as goal

pub returns : goal.returns
returns c = record {
  any_order = any_order_law;
  walked = seam_walked_law;
  grown = seam_grown_law;
}
