use Rattle.std.proofs.Common.{◌<◌, length, slice_get, Some, ap, sym, ◌∙◌, arith}
use Rattle.std.proofs.lemmas.List.{get_or_read}
use Rattle.std.proofs.lemmas.Option.{slice_get_read}
use Rattle.node_data.specs.declared.kid.Kid.TheVariants.{Hidden}
use Rattle.node_store.specs.declared.link.Link.TheVariants.{Node, Leaf}
use Rattle.node_store.proofs.LinkLemmas.{length-linked, leaf_in, linked_at}
use Rattle.node_store.proofs.ChunkLemmas.{all_shown}
use Rattle.node_store.proofs.chunk.Chunk.kid.Goals as goal

pub index-requires : goal.index-requires
index-requires c = omega (arith, c.requires, ap length (all_shown c.self.inside.number c.self.inside.nodes.items c.self.inside.links.items c.self.inside.leaves.items c.args.self.now c.self.view_is c.self.invariant), length-linked c.self.inside.number c.self.inside.leaves.items c.self.inside.links.items, c.self.inside.links.ok.0)

pub index-requires-in-Leaf : goal.index-requires-in-Leaf
index-requires-in-Leaf c =
    let less : c.args.index < c.self.inside.links.len = omega (arith, c.requires, ap length (all_shown c.self.inside.number c.self.inside.nodes.items c.self.inside.links.items c.self.inside.leaves.items c.args.self.now c.self.view_is c.self.invariant), length-linked c.self.inside.number c.self.inside.leaves.items c.self.inside.links.items, c.self.inside.links.ok.0) in
    let at = slice_get_read c.self.inside.links.items c.self.inside.links.len c.args.index c.index.result.now c.self.inside.links.ok.0 less c.index.ensures ∙ ap Some (sym c.link.ensures ∙ c.in-Leaf.is) in
    let inside = (leaf_in 0 c.self.inside.links.items (length c.self.inside.leaves.items) c.args.index c.in-Leaf.index c.self.invariant.numbered at).inside in
    omega (arith, inside, c.self.inside.leaves.ok.0)

pub returns-in-Leaf : goal.returns-in-Leaf
returns-in-Leaf c =
    let less : c.args.index < c.self.inside.links.len = omega (arith, c.requires, ap length (all_shown c.self.inside.number c.self.inside.nodes.items c.self.inside.links.items c.self.inside.leaves.items c.args.self.now c.self.view_is c.self.invariant), length-linked c.self.inside.number c.self.inside.leaves.items c.self.inside.links.items, c.self.inside.links.ok.0) in
    let at = slice_get_read c.self.inside.links.items c.self.inside.links.len c.args.index c.index.result.now c.self.inside.links.ok.0 less c.index.ensures ∙ ap Some (sym c.link.ensures ∙ c.in-Leaf.is) in
    let inside = (leaf_in 0 c.self.inside.links.items (length c.self.inside.leaves.items) c.args.index c.in-Leaf.index c.self.invariant.numbered at).inside in
    ap (λ l. slice_get l c.args.index) (all_shown c.self.inside.number c.self.inside.nodes.items c.self.inside.links.items c.self.inside.leaves.items c.args.self.now c.self.view_is c.self.invariant)
    ∙ linked_at c.self.inside.number c.self.inside.leaves.items c.self.inside.links.items c.args.index (Leaf c.in-Leaf.index) at
    ∙ ap Some (sym (get_or_read c.self.inside.leaves.items c.in-Leaf.index c.index-in-Leaf.result.now inside c.index-in-Leaf.ensures Hidden))

pub returns-in-Node : goal.returns-in-Node
returns-in-Node c =
    let less : c.args.index < c.self.inside.links.len = omega (arith, c.requires, ap length (all_shown c.self.inside.number c.self.inside.nodes.items c.self.inside.links.items c.self.inside.leaves.items c.args.self.now c.self.view_is c.self.invariant), length-linked c.self.inside.number c.self.inside.leaves.items c.self.inside.links.items, c.self.inside.links.ok.0) in
    let at = slice_get_read c.self.inside.links.items c.self.inside.links.len c.args.index c.index.result.now c.self.inside.links.ok.0 less c.index.ensures ∙ ap Some (sym c.link.ensures ∙ c.in-Node.is) in
    ap (λ l. slice_get l c.args.index) (all_shown c.self.inside.number c.self.inside.nodes.items c.self.inside.links.items c.self.inside.leaves.items c.args.self.now c.self.view_is c.self.invariant)
    ∙ linked_at c.self.inside.number c.self.inside.leaves.items c.self.inside.links.items c.args.index (Node c.in-Node.place) at
    ∙ ap Some (sym c.of.ensures)
