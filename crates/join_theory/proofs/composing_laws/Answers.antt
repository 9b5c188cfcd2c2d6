use Rattle.join_theory.proofs.ComposingLemmas.{tells_composed_law, stands_composed_law}
use Rattle.join_theory.proofs.composing_laws.Goals as goal

pub returns : goal.returns
returns c = record {
  tells = tells_composed_law;
  stands = stands_composed_law;
}
