use Rattle.std.proofs.Common.{arith}
use Rattle.node_store.proofs.SlotLemmas.{index_padded}
use Rattle.node_store.proofs.slots.grow.Goals as goal

pub returns-in_ok-resize-clause-index : goal.returns-in_ok-resize-clause-index
returns-in_ok-resize-clause-index c numbers index =
    index_padded c.args.slots.now.items c.resize.new.self.items numbers _ c.args.count (omega (arith, c.if-count-len.true, c.len.ensures, c.args.slots.now.ok.0)) c.in_ok-resize.ensures.items index
