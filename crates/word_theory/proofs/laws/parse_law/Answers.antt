use Rattle.word_theory.proofs.WordLemmas.{parse_can}
use Rattle.word_theory.proofs.laws.parse_law.Goals as goal

pub returns : goal.returns
returns c = parse_can
