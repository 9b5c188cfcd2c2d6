use Rattle.scanning_theory.proofs.ScanLemmas.{longest-len, longest-rank, longest-not_none}
use Rattle.scanning_theory.proofs.laws.longest_law.Goals as goal

pub returns-clause-one : goal.returns-clause-one
returns-clause-one c = λ patterns text at len rank other_len other a b. (longest-len patterns text at len rank other_len other a b, longest-rank patterns text at len rank other_len other a b)

pub returns-clause-or_none : goal.returns-clause-or_none
returns-clause-or_none c = longest-not_none
