use Rattle.table_theory.proofs.ClashLemmas.{clash_law, first_clash_law}
use Rattle.table_theory.proofs.clash_laws.Goals as goal

pub returns : goal.returns
returns c = record {
  clash = clash_law;
  first = first_clash_law;
}
