use Rattle.item_theory.proofs.StateLaws.{total_law, transitive_law, irreflexive_law, push_law}
use Rattle.item_theory.proofs.order_laws.Goals as goal

pub returns : goal.returns
returns c = record {
  total = total_law;
  transitive = transitive_law;
  irreflexive = irreflexive_law;
  push = push_law;
}
