use Rattle.answer_theory.proofs.AnswerLemmas.{load}
use Rattle.answer_theory.proofs.laws.load_law.Goals as goal

pub returns : goal.returns
returns c = load
