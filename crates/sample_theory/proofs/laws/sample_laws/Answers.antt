use Rattle.sample_theory.proofs.SampleLemmas.{one_sample_law, some_sample_law}
use Rattle.sample_theory.proofs.laws.sample_laws.Goals as goal

pub returns : goal.returns
returns c = record { one = one_sample_law; some = some_sample_law }
