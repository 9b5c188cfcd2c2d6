use Rattle.lexeme_theory.specs.declared.found.Found.TheVariants.{Blank as blank_found, Lexeme as lexeme_found}
use Rattle.lexeme_theory.proofs.EndLemmas.{found_ends}
use Rattle.lexeme_theory.proofs.laws.ends_law.Goals as goal

pub returns-clause-blank : goal.returns-clause-blank
returns-clause-blank c = λ bytes at next h. found_ends bytes at (blank_found next) h

pub returns-clause-lexeme : goal.returns-clause-lexeme
returns-clause-lexeme c = λ bytes at next lexeme h. found_ends bytes at (lexeme_found lexeme next) h
