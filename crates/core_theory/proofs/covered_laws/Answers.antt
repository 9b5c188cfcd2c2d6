use Rattle.core_theory.proofs.CoverLemmas.{sibling_law, apart_law, done_law}
use Rattle.core_theory.proofs.covered_laws.Goals as goal

pub returns : goal.returns
returns c = record { sibling = sibling_law; apart = apart_law; done = done_law }
