use Rattle.lexeme_theory.proofs.FoundLemmas.{found_once}
use Rattle.lexeme_theory.proofs.laws.one_found_law.Goals as goal

pub returns : goal.returns
returns c = found_once
