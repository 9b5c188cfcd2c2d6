use Rattle.word_theory.proofs.WordLemmas.{parse_once}
use Rattle.word_theory.proofs.laws.one_parse_law.Goals as goal

pub returns : goal.returns
returns c = parse_once
