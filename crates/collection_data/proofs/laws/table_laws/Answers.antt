use Rattle.collection_data.proofs.TableLaws.{state_items_law, no_step_law}
use Rattle.collection_data.proofs.laws.table_laws.Goals as goal

pub returns : goal.returns
returns c = record { items = state_items_law; no_step = no_step_law }
