use Rattle.tally_theory.proofs.ReportLemmas.{given, refused}
use Rattle.tally_theory.proofs.laws.run_laws.Goals as goal

pub returns : goal.returns
returns c = record { given = given; refused = refused }
