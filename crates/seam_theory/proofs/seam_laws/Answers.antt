use Rattle.seam_theory.proofs.SeamLemmas.{seam_start_law, seam_move_law, seam_meet_law, seam_put_law, seam_end_law}
use Rattle.seam_theory.proofs.seam_laws.Goals as goal

pub returns : goal.returns
returns c = record {
  start = seam_start_law;
  move_on = seam_move_law;
  meet = seam_meet_law;
  put = seam_put_law;
  end = seam_end_law;
}
