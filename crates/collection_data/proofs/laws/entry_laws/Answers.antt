use Rattle.collection_data.proofs.EntryLemmas.{entries_law}
use Rattle.collection_data.proofs.laws.entry_laws.Goals as goal

pub returns : goal.returns
returns c = entries_law
