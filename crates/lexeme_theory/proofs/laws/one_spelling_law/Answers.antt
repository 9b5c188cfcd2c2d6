use Rattle.lexeme_theory.proofs.SpellLemmas.{spells_once}
use Rattle.lexeme_theory.proofs.laws.one_spelling_law.Goals as goal

pub returns : goal.returns
returns c = λ text one other a b. spells_once a other b
