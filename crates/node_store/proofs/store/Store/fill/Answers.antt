use Rattle.std.proofs.Common.{set, sym, subst}
use Rattle.tree_theory.specs.Stores.{Ref}
use Rattle.node_store.specs.Chunks.{IsHiddenAt, IsPlaceOf, SetsKid, StoresKid, store_of}
use Rattle.node_store.proofs.ChunkListLemmas.{node_chunk}
use Rattle.node_store.proofs.StoreLemmas.{node_in_chunk, fill_step, fill_store}
use Rattle.node_store.proofs.store.Store.fill.Goals as goal

pub place_of-place-requires : goal.place_of-place-requires
place_of-place-requires c =
    let m : Ref = (c.node.inside.chunk, c.node.inside.place) in
    let there = subst (λ n. IsHiddenAt c.args.self.now n c.args.at) (sym c.node.view_is) c.requires.hidden in
    node_chunk c.args.self.now m (there.0, there.1) there.2

pub set_kid-requires : goal.set_kid-requires
set_kid-requires c =
    let m : Ref = (c.node.inside.chunk, c.node.inside.place) in
    let there = subst (λ n. IsHiddenAt c.args.self.now n c.args.at) (sym c.node.view_is) c.requires.hidden in (
      there.0,
      there.1,
      node_in_chunk c.self.inside.chunks.items c.args.self.now m c.place_of-place.result c.index_mut.result.now there.0 there.1 c.self.view_is there.2 c.place_of-place.ensures c.index_mut.ensures.value,
      there.3,
    )

pub invariant_of-self : goal.invariant_of-self
invariant_of-self c =
    let m : Ref = (c.node.inside.chunk, c.node.inside.place) in
    let there = subst (λ n. IsHiddenAt c.args.self.now n c.args.at) (sym c.node.view_is) c.requires.hidden in
    fill_store c.self.inside.chunks.items c.self.inside.slots.items c.self.inside.count m c.place_of-place.result c.args.at c.args.kid c.index_mut.result.now c.set_kid.new.self c.self.invariant
    (subst (λ l. IsHiddenAt l m c.args.at) (sym c.self.view_is) there)
    (subst (λ l. IsPlaceOf l c.node.inside.chunk c.place_of-place.result) (sym c.self.view_is) c.place_of-place.ensures)
    c.index_mut.ensures.value c.set_kid.ensures

pub returns : goal.returns
returns c =
    let m : Ref = (c.node.inside.chunk, c.node.inside.place) in
    let there = subst (λ n. IsHiddenAt c.args.self.now n c.args.at) (sym c.node.view_is) c.requires.hidden in
    let step = fill_step c.self.inside.chunks.items c.args.self.now m c.place_of-place.result c.args.at c.args.kid c.index_mut.result.now c.set_kid.new.self c.self.view_is there c.place_of-place.ensures c.index_mut.ensures.value c.set_kid.ensures in
    let now = set c.self.inside.chunks.items c.place_of-place.result c.set_kid.new.self in
    record {
      filled = subst (λ n. SetsKid c.args.self.now now n c.args.at c.args.kid) c.node.view_is step.filled;
      trees = subst (λ n. StoresKid (store_of c.args.self.now) (store_of now) n c.args.at c.args.kid) c.node.view_is step.trees;
      chunks = step.numbers;
      count = step.count;
    }
