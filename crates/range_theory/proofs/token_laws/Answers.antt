use Rattle.range_theory.proofs.LawLemmas.{few_tokens_law, small_tokens_law}
use Rattle.range_theory.proofs.token_laws.Goals as goal

pub returns : goal.returns
returns c = record { few = few_tokens_law; small = small_tokens_law }
