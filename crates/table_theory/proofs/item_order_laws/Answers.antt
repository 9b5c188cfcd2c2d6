use Rattle.table_theory.proofs.OrderLemmas.{item_total, item_transitive, item_irreflexive}
use Rattle.table_theory.proofs.item_order_laws.Goals as goal

pub returns : goal.returns
returns c = record {
  total = item_total;
  transitive = item_transitive;
  irreflexive = item_irreflexive;
}
