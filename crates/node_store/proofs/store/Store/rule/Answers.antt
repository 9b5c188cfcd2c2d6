use Rattle.std.proofs.Common.{ap, sym, ◌∙◌, subst}
use Rattle.std.specs.Option.{option_map}
use Rattle.tree_theory.specs.Stores.{Ref}
use Rattle.node_store.specs.Chunks.{IsNodeOf, Node, store_of}
use Rattle.node_store.proofs.ChunkListLemmas.{some_node, node_chunk}
use Rattle.node_store.proofs.StoreLemmas.{chunk_of_node}
use Rattle.node_store.proofs.store.Store.rule.Goals as goal

pub place_of-requires : goal.place_of-requires
place_of-requires c =
    let m : Ref = (c.node.inside.chunk, c.node.inside.place) in
    let it = some_node c.args.self.now m (subst (IsNodeOf c.args.self.now) (sym c.node.view_is) c.requires) in
    node_chunk c.args.self.now m it.0 it.1

pub rule-requires : goal.rule-requires
rule-requires c =
    let m : Ref = (c.node.inside.chunk, c.node.inside.place) in
    (chunk_of_node c.self.inside.chunks.items c.args.self.now m c.place_of.result c.index.result.now c.self.view_is (subst (IsNodeOf c.args.self.now) (sym c.node.view_is) c.requires) c.place_of.ensures c.index.ensures).less

pub returns : goal.returns
returns c =
    let m : Ref = (c.node.inside.chunk, c.node.inside.place) in
    let it = chunk_of_node c.self.inside.chunks.items c.args.self.now m c.place_of.result c.index.result.now c.self.view_is (subst (IsNodeOf c.args.self.now) (sym c.node.view_is) c.requires) c.place_of.ensures c.index.ensures in
    ap (λ (n : Ref). option_map (λ (n : Node). n.0) (store_of c.args.self.now n)) (sym c.node.view_is) ∙ ap (option_map (λ (n : Node). n.0)) (sym it.same) ∙ c.rule.ensures
