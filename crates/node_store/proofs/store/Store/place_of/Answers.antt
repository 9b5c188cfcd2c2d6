use Rattle.std.proofs.Common.{List, arith, subst}
use Rattle.node_store.specs.Slots.{IsIndexOf}
use Rattle.node_store.specs.Chunks.{Chunk, numbers_in}
use Rattle.node_store.proofs.ChunkListLemmas.{slot_inside, slot_read}
use Rattle.node_store.proofs.store.Store.place_of.Goals as goal

pub index-requires : goal.index-requires
index-requires c =
    let index = subst (λ (l : List Chunk). IsIndexOf c.self.inside.slots.items (numbers_in l)) c.self.view_is c.self.invariant.indexed in
    omega (arith, slot_inside c.self.inside.slots.items c.args.self.now c.args.number index c.requires, c.self.inside.slots.ok.0)

pub overflow_sub-result : goal.overflow_sub-result
overflow_sub-result c =
    let index = subst (λ (l : List Chunk). IsIndexOf c.self.inside.slots.items (numbers_in l)) c.self.view_is c.self.invariant.indexed in
    (slot_read c.self.inside.slots.items c.args.self.now c.args.number c.index.result.now index c.requires c.index.ensures).0

pub returns : goal.returns
returns c =
    let index = subst (λ (l : List Chunk). IsIndexOf c.self.inside.slots.items (numbers_in l)) c.self.view_is c.self.invariant.indexed in
    (slot_read c.self.inside.slots.items c.args.self.now c.args.number c.index.result.now index c.requires c.index.ensures).1
