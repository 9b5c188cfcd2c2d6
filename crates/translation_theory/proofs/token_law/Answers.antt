use Rattle.translation_theory.proofs.TokenLemmas.{in_text}
use Rattle.translation_theory.proofs.token_law.Goals as goal

pub returns : goal.returns
returns c = in_text
