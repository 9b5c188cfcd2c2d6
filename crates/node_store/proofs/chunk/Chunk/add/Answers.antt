use Rattle.std.proofs.Common.{[], ◌∷◌, ◌++◌, length, ap, ◌∙◌, arith}
use Rattle.node_store.specs.declared.node.Node.{Node as FlatNode}
use Rattle.node_store.specs.Chunks.{Chunk}
use Rattle.node_store.specs.Links.{linked}
use Rattle.node_store.proofs.FlatLemmas.{length-cut}
use Rattle.node_store.proofs.ChunkLemmas.{lists_more, chunk_more}
use Rattle.node_store.proofs.chunk.Chunk.add.Goals as goal

pub invariant_of-self-2 : goal.invariant_of-self-2
invariant_of-self-2 c =
    let node : FlatNode = record { end = c.in-Some.end; rule = c.args.rule } in
    lists_more c.self.inside.nodes.items c.push_reserved.new.self.items c.self.inside.links.items c.push_kids.new.links.items c.self.inside.leaves.items c.push_kids.new.leaves.items node c.self.invariant
    (c.push_reserved.ensures.items ∙ ap (λ l. l ++ node ∷ []) c.in_ok-reserve.ensures.items)
    (omega (arith, c.in-Some.ensures, c.len.ensures, c.self.inside.links.ok.0))
    (omega (arith, c.in-Some.ensures, c.len.ensures, c.self.inside.links.ok.0, c.in_ok-push_kids.ensures.links))
    c.in_ok-push_kids.ensures.numbered

pub returns-clause-place : goal.returns-clause-place
returns-clause-place c = omega (arith, c.len-place.ensures, ap (λ (v : Chunk). length v.1) c.self.view_is, length-cut 0 c.self.inside.nodes.items (linked c.self.inside.number c.self.inside.leaves.items c.self.inside.links.items), c.self.inside.nodes.ok.0)

pub returns-clause-nodes : goal.returns-clause-nodes
returns-clause-nodes c =
    let node : FlatNode = record { end = c.in-Some.end; rule = c.args.rule } in
    chunk_more c.self.inside.number c.self.inside.nodes.items c.push_reserved.new.self.items c.self.inside.links.items c.push_kids.new.links.items c.self.inside.leaves.items c.push_kids.new.leaves.items c.args.kids.now node c.args.self.now c.self.view_is c.self.invariant
    (c.push_reserved.ensures.items ∙ ap (λ l. l ++ node ∷ []) c.in_ok-reserve.ensures.items)
    c.in_ok-push_kids.ensures.kids
    (omega (arith, c.in-Some.ensures, c.len.ensures, c.self.inside.links.ok.0))
