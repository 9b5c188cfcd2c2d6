use Rattle.collection_data.proofs.TableLaws.{one_collection_law}
use Rattle.collection_data.proofs.laws.one_collection_law.Goals as goal

pub returns : goal.returns
returns c = one_collection_law
