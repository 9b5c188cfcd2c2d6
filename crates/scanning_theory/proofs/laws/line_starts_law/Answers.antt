use Rattle.scanning_theory.proofs.StartLemmas.{line_starts-rising, line_starts-inside, line_starts-first}
use Rattle.scanning_theory.proofs.laws.line_starts_law.Goals as goal

pub returns-clause-rising : goal.returns-clause-rising
returns-clause-rising c = line_starts-rising

pub returns-clause-inside : goal.returns-clause-inside
returns-clause-inside c = line_starts-inside

pub returns-clause-first : goal.returns-clause-first
returns-clause-first c = line_starts-first
