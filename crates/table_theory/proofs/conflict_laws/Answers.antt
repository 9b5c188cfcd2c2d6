use Rattle.table_theory.proofs.ConflictLemmas.{first_conflict, first_conflict_once}
use Rattle.table_theory.proofs.conflict_laws.Goals as goal

pub returns : goal.returns
returns c = record {
  once = first_conflict_once;
  conflict = first_conflict;
}
