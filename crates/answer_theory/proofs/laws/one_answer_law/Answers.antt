use Rattle.std.proofs.Common.{refl}
use Rattle.answer_theory.proofs.AnswerLemmas.{answer_once}
use Rattle.answer_theory.proofs.laws.one_answer_law.Goals as goal

pub returns : goal.returns
returns c = λ task inputs more status other out err other_out other_err answer other_answer. answer_once more answer refl other_answer
