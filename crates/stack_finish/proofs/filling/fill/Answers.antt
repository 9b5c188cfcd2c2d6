use Rattle.std.proofs.Common.{◌+◌, ◌-◌, refl, ◌∙◌, arith}
use Rattle.node_store.specs.Chunks.{store_of}
use Rattle.stack_finish.proofs.FillLemmas.{none_filled, hidden_there, next_filled}
use Rattle.stack_finish.proofs.filling.fill.Goals as goal

pub loop-left-init : goal.loop-left-init
loop-left-init c = record {
  inside = omega arith;
  filled = none_filled (store_of c.args.store.now) c.args.node c.args.still c.args.kids.now c.requires.hidden;
  chunks = refl;
}

pub fill-requires-clause-hidden : goal.fill-requires-clause-hidden
fill-requires-clause-hidden c = let some = c.loop-left-test.true in hidden_there c.loop-left.invariant.filled (c.args.still + (c.loop-left.left - 1)) (omega (arith, some))

pub loop-left-preserved : goal.loop-left-preserved
loop-left-preserved c =
    let some = c.loop-left-test.true in
    let inside = c.loop-left.invariant.inside in
    record {
      inside = omega (arith, inside);
      filled = next_filled (store_of c.args.store.now) (store_of c.loop-left.store) (store_of c.fill.new.self) c.args.node c.args.still c.loop-left.left c.args.kids.now c.index-kids-left.result some inside c.loop-left.invariant.filled c.fill.ensures.trees c.index-kids-left.is;
      chunks = c.fill.ensures.chunks ∙ c.loop-left.invariant.chunks;
    }
