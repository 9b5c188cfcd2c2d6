use Rattle.table_theory.proofs.CanonicalLemmas.{canonical_error, canonical_once, no_conflict}
use Rattle.table_theory.proofs.canonical_laws.Goals as goal

pub returns : goal.returns
returns c = record {
  error = canonical_error;
  once = canonical_once;
  no_conflict = no_conflict;
}
