use Rattle.std.proofs.Common.{List, ap, sym, ◌∙◌, subst, arith, ◌<◌, length, get_or, ltb-true, lt-ltb}
use Rattle.node_store.specs.Slots.{IsIndexOf}
use Rattle.node_store.specs.Chunks.{Chunk, numbers_in}
use Rattle.node_store.proofs.SlotLemmas.{slot_has, has_slot}
use Rattle.node_store.proofs.ChunkListLemmas.{slot_inside}
use Rattle.node_store.proofs.store.Store.has_chunk.Goals as goal

pub returns-in-Some : goal.returns-in-Some
returns-in-Some c =
    let index = subst (λ (l : List Chunk). IsIndexOf c.self.inside.slots.items (numbers_in l)) c.self.view_is c.self.invariant.indexed in
    let inside : c.args.number < length c.self.inside.slots.items = omega (arith, ltb-true c.args.number (length c.deref.result.now) (sym c.in-Some.ensures.lookup.0), ap length c.deref.ensures.value) in
    let read = c.in-Some.ensures.lookup.1 ∙ ap (λ l. get_or l c.args.number c.in-Some.slot.now) c.deref.ensures.value in (
      λ more. slot_has c.self.inside.slots.items (numbers_in c.args.self.now) c.args.number c.in-Some.slot.now index inside read (ltb-true 0 c.in-Some.slot.now more),
      λ has. lt-ltb 0 c.in-Some.slot.now (has_slot c.self.inside.slots.items (numbers_in c.args.self.now) c.args.number c.in-Some.slot.now index inside read has),
    )

pub returns-in-None : goal.returns-in-None
returns-in-None c =
    let index = subst (λ (l : List Chunk). IsIndexOf c.self.inside.slots.items (numbers_in l)) c.self.view_is c.self.invariant.indexed in
    (λ wrong. absurd (cc), λ has. absurd (let inside = slot_inside c.self.inside.slots.items c.args.self.now c.args.number index has in omega (arith, inside, c.in-None.ensures.lookup.3, ap length c.deref.ensures.value)))
