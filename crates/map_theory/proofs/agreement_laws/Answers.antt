use Rattle.map_theory.proofs.AgreementLemmas.{some_agreement_law, one_agreement_law}
use Rattle.map_theory.proofs.agreement_laws.Goals as goal

pub returns : goal.returns
returns c = record { some = some_agreement_law; one = one_agreement_law }
