use Rattle.piece_theory.proofs.ResultLemmas.{one_fall_law, one_fault_law, falls_or_fails_law, one_put_law}
use Rattle.piece_theory.proofs.result_laws.Goals as goal

pub returns : goal.returns
returns c = record {
  one_fall = one_fall_law;
  one_fault = one_fault_law;
  falls_or_fails = falls_or_fails_law;
  one_put = one_put_law;
}
