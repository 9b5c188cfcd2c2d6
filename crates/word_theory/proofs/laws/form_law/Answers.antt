use Rattle.word_theory.proofs.WordLemmas.{form_can}
use Rattle.word_theory.proofs.laws.form_law.Goals as goal

pub returns : goal.returns
returns c = form_can
