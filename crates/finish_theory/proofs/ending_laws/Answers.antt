use Rattle.finish_theory.proofs.EndingLemmas.{ending_start_law, ending_move_law, end_put_start_law, enough_law, end_put_whole_law, end_put_end_law}
use Rattle.finish_theory.proofs.ending_laws.Goals as goal

pub returns : goal.returns
returns c = record {
  start = ending_start_law;
  move_on = ending_move_law;
  put_start = end_put_start_law;
  enough = enough_law;
  put_whole = end_put_whole_law;
  put_end = end_put_end_law;
}
