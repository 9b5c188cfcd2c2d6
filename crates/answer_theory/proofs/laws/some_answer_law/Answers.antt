use Rattle.answer_theory.proofs.AnswerLemmas.{some_answer}
use Rattle.answer_theory.proofs.laws.some_answer_law.Goals as goal

pub returns : goal.returns
returns c = some_answer
