use Rattle.std.proofs.Common.{ap}
use Rattle.std.specs.Prelude.{is_some}
use Rattle.store_rows.proofs.stores.a_hidden_kid_is_filled.Goals as goal

pub is_node-requires : goal.is_node-requires
is_node-requires g c = ap is_some (c.fill.ensures.trees.filled _ _ c.in_ok-store.ensures.node)
