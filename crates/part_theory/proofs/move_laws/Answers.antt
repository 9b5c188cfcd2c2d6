use Rattle.part_theory.proofs.MoveLemmas.{moves_law, moves_then_law, one_moves_law, shifts_law}
use Rattle.part_theory.proofs.move_laws.Goals as goal

pub returns : goal.returns
returns c = record {
  moves = moves_law;
  then = moves_then_law;
  one = one_moves_law;
  shifts = shifts_law;
}
