use Rattle.lexeme_theory.proofs.LineLemmas.{end_line}
use Rattle.lexeme_theory.proofs.laws.end_line_law.Goals as goal

pub returns : goal.returns
returns c = end_line
