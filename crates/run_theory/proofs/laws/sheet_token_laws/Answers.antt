use Rattle.run_theory.proofs.TokenLemmas.{counted, sheet_tokens}
use Rattle.run_theory.proofs.laws.sheet_token_laws.Goals as goal

pub returns : goal.returns
returns c = record { counted = counted; tokens = sheet_tokens }
