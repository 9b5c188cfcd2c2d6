use Rattle.collection_laws.proofs.FaultLemmas.{some_fault}
use Rattle.collection_laws.proofs.BuiltLemmas.{some_built, some_grammar}
use Rattle.collection_laws.proofs.grammar_existence_laws.Goals as goal

pub returns : goal.returns
returns c = record {
  fault = some_fault;
  built = some_built;
  whole = some_grammar;
}
