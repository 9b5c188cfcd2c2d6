use Rattle.run_theory.proofs.RunLemmas.{given, refused}
use Rattle.run_theory.proofs.laws.sentence_laws.Goals as goal

pub returns : goal.returns
returns c = record { given = given; refused = refused }
