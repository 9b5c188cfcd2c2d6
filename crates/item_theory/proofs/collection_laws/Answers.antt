use Rattle.item_theory.proofs.CollectionLaws.{collection_once_law, collection_walk_law, collection_viable_law, collection_stop_law, collection_items_law, more_states_law}
use Rattle.item_theory.proofs.collection_laws.Goals as goal

pub returns : goal.returns
returns c = record {
  once = collection_once_law;
  walk = collection_walk_law;
  viable = collection_viable_law;
  stop = collection_stop_law;
  items = collection_items_law;
  more_states = more_states_law;
}
