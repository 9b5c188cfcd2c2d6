use Rattle.lawful_theory.proofs.FitLemmas.{fit_law, stacks_stay_law}
use Rattle.lawful_theory.proofs.fit_laws.Goals as goal

pub returns : goal.returns
returns c = record {
  fit = fit_law;
  stacks = stacks_stay_law;
}
