use Rattle.std.proofs.Common.{refl}
use Rattle.position_theory.proofs.MatchLemmas.{one_some}
use Rattle.position_theory.proofs.laws.some_byte_law.Goals as goal

pub returns : goal.returns
returns c = λ patterns q reach. one_some reach refl
