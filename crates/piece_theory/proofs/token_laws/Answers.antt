use Rattle.piece_theory.proofs.StoreLemmas.{one_yield_law, no_piece_law}
use Rattle.piece_theory.proofs.token_laws.Goals as goal

pub returns : goal.returns
returns c = record {
  one_yield = one_yield_law;
  no_piece = no_piece_law;
}
