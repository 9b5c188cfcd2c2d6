use Rattle.std.proofs.Common.{arith}
use Rattle.core_theory.proofs.TreeLemmas.{range_inside}
use Rattle.core_theory.specs.Tree.{whole}
use Rattle.join_core.proofs.NodeLemmas.{way_left, way_right}
use Rattle.join_core.proofs.above.node_above.Goals as goal
use Rattle.join_core.proofs.above.node_above.Goals.{else-first-low-via-then-first-low+else-last-boundary-2, else-first-low-via-else-first-low, else-first-boundary-via-then-first-boundary+else-last-high, else-first-boundary-via-else-first-boundary}

pub loop-first-init : goal.loop-first-init
loop-first-init c =
    let inside = range_inside c.requires.range in
    record {
      range = whole (omega (arith, inside.some, inside.upto));
      within = record { from = omega arith; upto = omega (arith, inside.upto) };
      differs = c.requires.part;
    }

pub loop-first-preserved-then-last-boundary : goal.loop-first-preserved-then-last-boundary
loop-first-preserved-then-last-boundary c =
    let inside = range_inside c.loop-first.invariant.range in
    way_left c.requires.range c.loop-first.invariant (omega (arith, inside.some)) c.if-last-boundary.true (λ from upto. elim c.else-first-low.branch [
      | else-first-low-via-then-first-low+else-last-boundary-2 w ↦ w.if-last-boundary-2.false upto
      | else-first-low-via-else-first-low w ↦ w.if-first-low.false from
    ])

pub loop-first-preserved : goal.loop-first-preserved
loop-first-preserved c =
    let inside = range_inside c.loop-first.invariant.range in
    way_right c.requires.range c.loop-first.invariant (omega (arith, inside.some)) c.if-last-boundary.false (λ from upto. elim c.else-first-boundary.branch [
      | else-first-boundary-via-then-first-boundary+else-last-high w ↦ w.if-last-high.false upto
      | else-first-boundary-via-else-first-boundary w ↦ w.if-first-boundary.false from
    ])
