use Rattle.std.proofs.Common.{◌≡◌, ◌-◌, length, take, drop, Some, ap, sym, ◌∙◌, arith}
use Rattle.std.specs.Option.{option_map}
use Rattle.node_store.specs.Chunks.{Node}
use Rattle.node_store.specs.Flat.{all_kids, start_at}
use Rattle.node_store.proofs.LinkLemmas.{length-linked}
use Rattle.node_store.proofs.ChunkLemmas.{within, node_read, node_at, all_shown}
use Rattle.node_store.proofs.chunk.Chunk.kids.Goals as goal

pub start_of-first-requires : goal.start_of-first-requires
start_of-first-requires c =
    let less = within c.self.inside.number c.self.inside.nodes.items c.self.inside.links.items c.self.inside.leaves.items c.args.self.now c.self.inside.nodes.len c.args.place c.self.view_is c.self.inside.nodes.ok.0 c.requires in
    omega (arith, less, c.self.inside.nodes.ok.0, ap length c.deref.ensures.value)

pub index-requires : goal.index-requires
index-requires c = within c.self.inside.number c.self.inside.nodes.items c.self.inside.links.items c.self.inside.leaves.items c.args.self.now c.self.inside.nodes.len c.args.place c.self.view_is c.self.inside.nodes.ok.0 c.requires

pub new-requires-clause-order : goal.new-requires-clause-order
new-requires-clause-order c =
    let it = node_at c.self.inside.number c.self.inside.nodes.items c.self.inside.links.items c.self.inside.leaves.items c.args.self.now c.args.place c.index.result.now c.self.view_is c.self.invariant (node_read c.self.inside.number c.self.inside.nodes.items c.self.inside.links.items c.self.inside.leaves.items c.args.self.now c.self.inside.nodes.len c.args.place c.index.result.now c.self.view_is c.self.inside.nodes.ok.0 c.requires c.index.ensures) in
    let first : c.start_of-first.result ≡ start_at 0 c.self.inside.nodes.items c.args.place = c.start_of-first.ensures ∙ ap (λ l. start_at 0 l c.args.place) c.deref.ensures.value in
    let order = it.order in
    omega (arith, order, first)

pub new-requires-clause-inside : goal.new-requires-clause-inside
new-requires-clause-inside c =
    let it = node_at c.self.inside.number c.self.inside.nodes.items c.self.inside.links.items c.self.inside.leaves.items c.args.self.now c.args.place c.index.result.now c.self.view_is c.self.invariant (node_read c.self.inside.number c.self.inside.nodes.items c.self.inside.links.items c.self.inside.leaves.items c.args.self.now c.self.inside.nodes.len c.args.place c.index.result.now c.self.view_is c.self.inside.nodes.ok.0 c.requires c.index.ensures) in
    let fits = it.fits in
    omega (arith, fits, ap length (all_shown c.self.inside.number c.self.inside.nodes.items c.self.inside.links.items c.self.inside.leaves.items c.args.self.now c.self.view_is c.self.invariant), length-linked c.self.inside.number c.self.inside.leaves.items c.self.inside.links.items)

pub returns : goal.returns
returns c =
    let it = node_at c.self.inside.number c.self.inside.nodes.items c.self.inside.links.items c.self.inside.leaves.items c.args.self.now c.args.place c.index.result.now c.self.view_is c.self.invariant (node_read c.self.inside.number c.self.inside.nodes.items c.self.inside.links.items c.self.inside.leaves.items c.args.self.now c.self.inside.nodes.len c.args.place c.index.result.now c.self.view_is c.self.inside.nodes.ok.0 c.requires c.index.ensures) in
    let first : c.start_of-first.result ≡ start_at 0 c.self.inside.nodes.items c.args.place = c.start_of-first.ensures ∙ ap (λ l. start_at 0 l c.args.place) c.deref.ensures.value in
    let end = c.index.result.now.end in
    let start = start_at 0 c.self.inside.nodes.items c.args.place in
    ap (option_map (λ (n : Node). n.1)) it.found
    ∙ ap (λ l. Some (take (end - start) (drop start l))) (sym (all_shown c.self.inside.number c.self.inside.nodes.items c.self.inside.links.items c.self.inside.leaves.items c.args.self.now c.self.view_is c.self.invariant))
    ∙ ap (λ n. Some (take (end - n) (drop n (all_kids c.args.self.now)))) (sym first)
    ∙ ap Some (sym c.new.ensures)
