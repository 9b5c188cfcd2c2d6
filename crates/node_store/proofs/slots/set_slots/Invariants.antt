use Rattle.std.proofs.Common.{take}
use Rattle.node_store.specs.Slots.{HaveSlots, IsIndexOf}
use Rattle.node_store.specs.Chunks.{numbers_in}
use Rattle.node_store.proofs.slots.set_slots.Given as goal

abbrev pub invariant-loop-place : goal.invariant-loop-place
invariant-loop-place l = HaveSlots l.slots.items l.fn.from (numbers_in l.chunks) × IsIndexOf l.slots.items (take l.place (numbers_in l.chunks))
