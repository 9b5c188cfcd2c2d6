use Rattle.std.proofs.Common.{refl}
use Rattle.position_theory.proofs.StepLemmas.{step_from_one, step_to_one}
use Rattle.position_theory.proofs.laws.step_law.Goals as goal

pub returns : goal.returns
returns c = λ patterns w byte t. (λ reach. step_from_one reach w byte refl, λ both. step_to_one patterns w byte t both.0 both.1)
