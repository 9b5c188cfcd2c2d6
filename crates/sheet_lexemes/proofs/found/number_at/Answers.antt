use Rattle.lexeme_theory.specs.declared.lexeme.Lexeme.TheVariants.{Number}
use Rattle.sheet_lexemes.proofs.found.number_at.Goals as goal

pub returns-in-Some : goal.returns-in-Some
returns-in-Some c = c.in-Some.ensures Number

pub returns-in-None : goal.returns-in-None
returns-in-None c = c.in-None.ensures Number
