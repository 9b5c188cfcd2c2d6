use Rattle.sample_theory.proofs.LineLemmas.{tokens_law, text_law}
use Rattle.sample_theory.proofs.laws.text_laws.Goals as goal

pub returns : goal.returns
returns c = record { tokens = tokens_law; text = text_law }
