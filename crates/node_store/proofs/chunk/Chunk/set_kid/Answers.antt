use Rattle.std.proofs.Common.{◌≡◌, ◌+◌, ◌<◌, length, slice_get, Some, ap, sym, ◌∙◌, arith}
use Rattle.std.proofs.lemmas.Option.{slice_get_read, slice_get_within}
use Rattle.node_data.specs.declared.kid.Kid.TheVariants.{Hidden}
use Rattle.tree_theory.proofs.ShownLemmas.{some_pair}
use Rattle.node_store.specs.Flat.{start_at}
use Rattle.node_store.proofs.LinkLemmas.{leaf_in}
use Rattle.node_store.proofs.ChunkLemmas.{within, kid_there, not_a_node, chunk_set}
use Rattle.node_store.proofs.chunk.Chunk.set_kid.Goals as goal

pub start_of-first-requires : goal.start_of-first-requires
start_of-first-requires c =
    let less = within c.self.inside.number c.self.inside.nodes.items c.self.inside.links.items c.self.inside.leaves.items c.args.self.now c.self.inside.nodes.len c.args.place c.self.view_is c.self.inside.nodes.ok.0 (slice_get_within c.args.self.now.1 c.args.place (c.requires.0, c.requires.1) c.requires.2) in
    omega (arith, less, c.self.inside.nodes.ok.0, ap length c.deref.ensures.value)

pub index-requires : goal.index-requires
index-requires c =
    let it = kid_there c.self.inside.number c.self.inside.nodes.items c.self.inside.links.items c.self.inside.leaves.items c.args.self.now c.args.place c.args.at c.requires.0 c.requires.1 c.self.view_is c.self.invariant c.requires.2 (slice_get_within c.requires.1 c.args.at Hidden c.requires.3) in
    let first : c.start_of-first.result ≡ start_at 0 c.self.inside.nodes.items c.args.place = c.start_of-first.ensures ∙ ap (λ l. start_at 0 l c.args.place) c.deref.ensures.value in
    let inside = it.inside in let less : c.start_of-first.result + c.args.at < c.self.inside.links.len = omega (arith, inside, first, c.self.inside.links.ok.0) in
    less

pub index_mut-requires : goal.index_mut-requires
index_mut-requires c =
    let it = kid_there c.self.inside.number c.self.inside.nodes.items c.self.inside.links.items c.self.inside.leaves.items c.args.self.now c.args.place c.args.at c.requires.0 c.requires.1 c.self.view_is c.self.invariant c.requires.2 (slice_get_within c.requires.1 c.args.at Hidden c.requires.3) in
    let first : c.start_of-first.result ≡ start_at 0 c.self.inside.nodes.items c.args.place = c.start_of-first.ensures ∙ ap (λ l. start_at 0 l c.args.place) c.deref.ensures.value in
    let inside = it.inside in let less : c.start_of-first.result + c.args.at < c.self.inside.links.len = omega (arith, inside, first, c.self.inside.links.ok.0) in
    let at = ap (λ n. slice_get c.self.inside.links.items (n + c.args.at)) (sym first) ∙ slice_get_read c.self.inside.links.items c.self.inside.links.len (c.start_of-first.result + c.args.at) c.index.result.now c.self.inside.links.ok.0 less c.index.ensures ∙ ap Some (sym c.link.ensures ∙ c.in-Leaf.is) in
    let within = (leaf_in 0 c.self.inside.links.items (length c.self.inside.leaves.items) (start_at 0 c.self.inside.nodes.items c.args.place + c.args.at) c.in-Leaf.index c.self.invariant.numbered at).inside in
    omega (arith, within, c.self.inside.leaves.ok.0)

pub unreachable-requires : goal.unreachable-requires
unreachable-requires c =
    let it = kid_there c.self.inside.number c.self.inside.nodes.items c.self.inside.links.items c.self.inside.leaves.items c.args.self.now c.args.place c.args.at c.requires.0 c.requires.1 c.self.view_is c.self.invariant c.requires.2 (slice_get_within c.requires.1 c.args.at Hidden c.requires.3) in
    let first : c.start_of-first.result ≡ start_at 0 c.self.inside.nodes.items c.args.place = c.start_of-first.ensures ∙ ap (λ l. start_at 0 l c.args.place) c.deref.ensures.value in
    let inside = it.inside in let less : c.start_of-first.result + c.args.at < c.self.inside.links.len = omega (arith, inside, first, c.self.inside.links.ok.0) in
    let at = ap (λ n. slice_get c.self.inside.links.items (n + c.args.at)) (sym first) ∙ slice_get_read c.self.inside.links.items c.self.inside.links.len (c.start_of-first.result + c.args.at) c.index.result.now c.self.inside.links.ok.0 less c.index.ensures ∙ ap Some (sym c.link.ensures ∙ c.in-Node.is) in
    not_a_node c.self.inside.number c.self.inside.links.items c.self.inside.leaves.items it.node (start_at 0 c.self.inside.nodes.items c.args.place) c.requires.0 c.args.at c.requires.1 c.in-Node.field-0 it.mine c.requires.3 at

pub returns : goal.returns
returns c rule own here =
    let it = kid_there c.self.inside.number c.self.inside.nodes.items c.self.inside.links.items c.self.inside.leaves.items c.args.self.now c.args.place c.args.at c.requires.0 c.requires.1 c.self.view_is c.self.invariant c.requires.2 (slice_get_within c.requires.1 c.args.at Hidden c.requires.3) in
    let first : c.start_of-first.result ≡ start_at 0 c.self.inside.nodes.items c.args.place = c.start_of-first.ensures ∙ ap (λ l. start_at 0 l c.args.place) c.deref.ensures.value in
    let inside = it.inside in let less : c.start_of-first.result + c.args.at < c.self.inside.links.len = omega (arith, inside, first, c.self.inside.links.ok.0) in
    let at = ap (λ n. slice_get c.self.inside.links.items (n + c.args.at)) (sym first) ∙ slice_get_read c.self.inside.links.items c.self.inside.links.len (c.start_of-first.result + c.args.at) c.index.result.now c.self.inside.links.ok.0 less c.index.ensures ∙ ap Some (sym c.link.ensures ∙ c.in-Leaf.is) in
    let same = some_pair (sym c.requires.2 ∙ here) in
    let size = slice_get_within c.requires.1 c.args.at Hidden c.requires.3 in
    chunk_set c.self.inside.number c.self.inside.nodes.items c.self.inside.links.items c.self.inside.leaves.items c.args.self.now c.args.place c.args.at c.in-Leaf.index it.node c.args.kid rule own c.self.view_is c.self.invariant it.here here (omega (arith, size, ap length same.1)) at
