use Rattle.std.proofs.Common.{ap, reverse}
use Rattle.node_store.proofs.WalkingLemmas.{walks_tree}
use Rattle.node_store.proofs.store.Store.walk.Goals as goal

pub invariant_of-result : goal.invariant_of-result
invariant_of-result c =
    let by = walks_tree c.args.self.now c.args.root c.requires.0 c.requires.1 c.requires.2 c.requires.3 (reverse c.in_ok-frames.frames.items) (ap reverse c.in_ok-frames.ensures.items) in
    (by.steps, by.remains)

pub returns : goal.returns
returns c n i tree shown = walks_tree c.args.self.now c.args.root n i tree shown (reverse c.in_ok-frames.frames.items) (ap reverse c.in_ok-frames.ensures.items)
