use Rattle.std.proofs.Common.{List, [], ◌∷◌, ◌++◌, ap, sym, ◌∙◌, subst, arith}
use Rattle.node_store.specs.Slots.{IsIndexOf, AreDistinct, HaveSlots}
use Rattle.node_store.specs.Chunks.{Chunk, HasChunk, numbers_in, node_count_in, store_of}
use Rattle.node_store.proofs.ChunkListLemmas.{count-append, empty_chunk}
use Rattle.node_store.proofs.StoreLemmas.{distinct_more, room_more, has_more}
use Rattle.node_store.proofs.store.Store.add_chunk.Goals as goal

pub set_slots-requires-clause-room : goal.set_slots-requires-clause-room
set_slots-requires-clause-room c =
    subst (λ (l : List Chunk). HaveSlots c.grow.new.slots.items c.len-place.result (numbers_in l)) (sym (c.deref.ensures.value ∙ (c.in_ok-push.ensures.items ∙ ap (λ (x : Chunk). c.self.inside.chunks.items ++ x ∷ []) c.new.ensures)))
    (subst (λ n. HaveSlots c.grow.new.slots.items n (numbers_in (c.self.inside.chunks.items ++ (c.args.number, []) ∷ []))) (omega (arith, c.len-place.ensures, c.self.inside.chunks.ok.0))
    (room_more c.self.inside.chunks.items c.args.number c.grow.new.slots.items c.in_ok-grow.ensures.room))

pub set_slots-requires-clause-distinct : goal.set_slots-requires-clause-distinct
set_slots-requires-clause-distinct c =
    subst (λ (l : List Chunk). AreDistinct (numbers_in l)) (sym (c.deref.ensures.value ∙ (c.in_ok-push.ensures.items ∙ ap (λ (x : Chunk). c.self.inside.chunks.items ++ x ∷ []) c.new.ensures)))
    (distinct_more c.self.inside.chunks.items c.args.number c.self.inside.slots.items c.self.invariant.indexed (λ has. c.requires (subst (λ l. HasChunk l c.args.number) c.self.view_is has)))

pub invariant_of-self-2 : goal.invariant_of-self-2
invariant_of-self-2 c = record {
  indexed = subst (λ (l : List Chunk). IsIndexOf c.set_slots.new.slots.items (numbers_in l)) c.deref.ensures.value c.set_slots.ensures;
  counted = (let all = ap node_count_in (c.in_ok-push.ensures.items ∙ ap (λ (x : Chunk). c.self.inside.chunks.items ++ x ∷ []) c.new.ensures) in let sum = count-append c.self.inside.chunks.items ((c.args.number, []) ∷ []) in omega (arith, c.self.invariant.counted, all, sum));
}

pub returns-clause-has : goal.returns-clause-has
returns-clause-has c = subst (λ l. HasChunk l c.args.number) (sym (c.in_ok-push.ensures.items ∙ ap (λ (x : Chunk). c.self.inside.chunks.items ++ x ∷ []) c.new.ensures)) (has_more c.self.inside.chunks.items c.args.number)

pub returns-clause-trees : goal.returns-clause-trees
returns-clause-trees c m = ap (λ l. store_of l m) (c.in_ok-push.ensures.items ∙ ap (λ (x : Chunk). c.self.inside.chunks.items ++ x ∷ []) c.new.ensures) ∙ empty_chunk c.self.inside.chunks.items c.args.number m ∙ ap (λ l. store_of l m) c.self.view_is

pub returns-clause-count : goal.returns-clause-count
returns-clause-count c =
    let all = ap node_count_in (c.in_ok-push.ensures.items ∙ ap (λ (x : Chunk). c.self.inside.chunks.items ++ x ∷ []) c.new.ensures) in
    let sum = count-append c.self.inside.chunks.items ((c.args.number, []) ∷ []) in
    let same = ap node_count_in c.self.view_is in
    omega (arith, all, sum, same)
