use Rattle.scanning_theory.proofs.ScanLemmas.{tokens_once, lines_once}
use Rattle.scanning_theory.proofs.laws.one_list_law.Goals as goal

pub returns-clause-rest : goal.returns-clause-rest
returns-clause-rest c = λ scanning text line at tokens others d. tokens_once scanning text line d others

pub returns-clause-lines : goal.returns-clause-lines
returns-clause-lines c = λ scanning text to from tokens others d. lines_once scanning text d others

pub returns-clause-text : goal.returns-clause-text
returns-clause-text c = λ scanning text tokens others d. lines_once scanning text d others
