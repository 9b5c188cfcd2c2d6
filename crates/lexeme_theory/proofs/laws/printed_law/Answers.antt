use Rattle.lexeme_theory.proofs.PrintedLemmas.{printed_spells}
use Rattle.lexeme_theory.proofs.laws.printed_law.Goals as goal

pub returns : goal.returns
returns c = printed_spells
