use Rattle.outline_laws.proofs.AnswerLemmas.{some_answer}
use Rattle.outline_laws.proofs.laws.some_answer_law.Goals as goal

pub returns : goal.returns
returns c = some_answer
