use Rattle.lexeme_theory.specs.declared.lexeme.Lexeme.TheVariants.{Fold}
use Rattle.sheet_lexemes.proofs.found.fold_at.Goals as goal

pub returns-in-Some : goal.returns-in-Some
returns-in-Some c = c.in-Some.ensures Fold

pub returns-in-None : goal.returns-in-None
returns-in-None c = c.in-None.ensures Fold
