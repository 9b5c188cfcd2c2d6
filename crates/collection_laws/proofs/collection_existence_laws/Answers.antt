use Rattle.collection_laws.proofs.CollectionLemmas.{some_collection}
use Rattle.collection_laws.proofs.TablesLemmas.{some_tables}
use Rattle.collection_laws.proofs.collection_existence_laws.Goals as goal

pub returns : goal.returns
returns c = record { collection = some_collection; tables = some_tables }
