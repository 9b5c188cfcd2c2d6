use Rattle.lexeme_theory.proofs.ReadingLemmas.{reading_join, blanks_read}
use Rattle.lexeme_theory.proofs.laws.join_law.Goals as goal

pub returns-clause-join : goal.returns-clause-join
returns-clause-join c = λ bytes from middle to lexemes others one other. reading_join bytes to others one other

pub returns-clause-blanks : goal.returns-clause-blanks
returns-clause-blanks c = λ bytes from to blanks. blanks_read bytes blanks
