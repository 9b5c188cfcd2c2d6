use Rattle.word_theory.proofs.WordLemmas.{form_once}
use Rattle.word_theory.proofs.laws.one_form_law.Goals as goal

pub returns : goal.returns
returns c = form_once
