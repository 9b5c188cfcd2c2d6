use Rattle.seam_theory.proofs.SameLemmas.{made_same_law, stands_same_law, pieces_same_law}
use Rattle.seam_theory.proofs.same_laws.Goals as goal

pub returns : goal.returns
returns c = record {
  made = made_same_law;
  stands = stands_same_law;
  pieces = pieces_same_law;
}
