use Rattle.lexeme_theory.proofs.ReadingLemmas.{reading_once}
use Rattle.lexeme_theory.proofs.laws.one_reading_law.Goals as goal

pub returns : goal.returns
returns c = λ bytes from to one other a b. reading_once bytes a other b
