use Rattle.run_theory.proofs.RunLemmas.{one_answer, some_answer}
use Rattle.run_theory.proofs.laws.answer_laws.Goals as goal

pub returns : goal.returns
returns c = record { one = one_answer; some = some_answer }
