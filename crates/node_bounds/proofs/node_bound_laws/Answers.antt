use Rattle.node_bounds.proofs.NodeLemmas.{node_bound_law}
use Rattle.node_bounds.proofs.node_bound_laws.Goals as goal

pub returns : goal.returns
returns c = record { bound = node_bound_law }
