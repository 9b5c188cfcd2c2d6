use Rattle.lexeme_theory.proofs.FoundLemmas.{found_some}
use Rattle.lexeme_theory.proofs.laws.some_found_law.Goals as goal

pub returns : goal.returns
returns c = found_some
