use Rattle.sample_theory.proofs.WordLemmas.{one_shortest, some_shortest}
use Rattle.sample_theory.proofs.laws.shortest_word_laws.Goals as goal

pub returns : goal.returns
returns c = record { one = one_shortest; some = some_shortest }
