use Rattle.std.proofs.Common.{ap}
use Rattle.std.specs.Option.{option_map}
use Rattle.node_store.specs.Chunks.{Node}
use Rattle.node_store.proofs.ChunkLemmas.{within, node_read, node_at}
use Rattle.node_store.proofs.chunk.Chunk.rule.Goals as goal

pub index-requires : goal.index-requires
index-requires c = within c.self.inside.number c.self.inside.nodes.items c.self.inside.links.items c.self.inside.leaves.items c.args.self.now c.self.inside.nodes.len c.args.place c.self.view_is c.self.inside.nodes.ok.0 c.requires

pub returns : goal.returns
returns c =
    let at = node_read c.self.inside.number c.self.inside.nodes.items c.self.inside.links.items c.self.inside.leaves.items c.args.self.now c.self.inside.nodes.len c.args.place c.index.result.now c.self.view_is c.self.inside.nodes.ok.0 c.requires c.index.ensures in
    ap (option_map (λ (n : Node). n.0)) (node_at c.self.inside.number c.self.inside.nodes.items c.self.inside.links.items c.self.inside.leaves.items c.args.self.now c.args.place c.index.result.now c.self.view_is c.self.invariant at).found
