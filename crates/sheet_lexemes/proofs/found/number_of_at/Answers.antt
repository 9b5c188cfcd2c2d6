use Rattle.lexeme_theory.specs.declared.lexeme.Lexeme.TheVariants.{NumberOf}
use Rattle.sheet_lexemes.proofs.found.number_of_at.Goals as goal

pub returns-in-Some : goal.returns-in-Some
returns-in-Some c = c.in-Some.ensures NumberOf

pub returns-in-None : goal.returns-in-None
returns-in-None c = c.in-None.ensures NumberOf
