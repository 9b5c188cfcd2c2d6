use Rattle.sample_theory.proofs.ChoiceLemmas.{one_choice, choice_law, some_choice}
use Rattle.sample_theory.proofs.laws.choice_laws.Goals as goal

pub returns : goal.returns
returns c = record { one = one_choice; sentence = choice_law; some = some_choice }
