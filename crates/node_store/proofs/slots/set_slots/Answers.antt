use Rattle.std.proofs.Common.{◌+◌, arith, length-set}
use Rattle.node_store.specs.Chunks.{numbers_in}
use Rattle.node_store.proofs.ChunkListLemmas.{number_read}
use Rattle.node_store.proofs.SlotLemmas.{index_next}
use Rattle.node_store.proofs.slots.set_slots.Goals as goal

pub index_mut-requires : goal.index_mut-requires
index_mut-requires c =
    let at = number_read c.args.chunks.now c.loop-place.place c.number-number.result c.index-chunks-place.result c.loop-place-test.true c.index-chunks-place.is c.number-number.ensures in
    let inside = c.loop-place.invariant.0 c.loop-place.place c.number-number.result c.loop-place.auto.place at in
    omega (arith, inside, c.loop-place.slots.ok.0)

pub loop-place-preserved : goal.loop-place-preserved
loop-place-preserved c =
    let numbers = numbers_in c.args.chunks.now in
    let at = number_read c.args.chunks.now c.loop-place.place c.number-number.result c.index-chunks-place.result c.loop-place-test.true c.index-chunks-place.is c.number-number.ensures in (
      λ place number after found. let room = c.loop-place.invariant.0 place number after found in let size = length-set c.loop-place.slots.items c.number-number.result (c.loop-place.place + 1) in omega (arith, room, size),
      index_next c.loop-place.slots.items numbers c.args.from c.loop-place.place c.number-number.result c.loop-place.invariant.1 c.requires.distinct c.loop-place.invariant.0 c.loop-place.auto.place at,
    )
