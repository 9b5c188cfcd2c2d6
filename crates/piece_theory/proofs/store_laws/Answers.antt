use Rattle.piece_theory.proofs.StoreLemmas.{leaves_more_law, stands_more_law, made_more_law}
use Rattle.piece_theory.proofs.store_laws.Goals as goal

pub returns : goal.returns
returns c = record {
  leaves = leaves_more_law;
  stands = stands_more_law;
  made = made_more_law;
}
