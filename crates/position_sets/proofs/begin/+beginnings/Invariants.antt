use Rattle.std.proofs.Common.{◌≤◌, length, drop}
use Rattle.position_sets.specs.Begins.{IsBeginInOrder, IsBeginOfOne}
use Rattle.position_sets.proofs.DepthLemmas.{depth_of, depth_of_all}
use Rattle.position_sets.proofs.begin.+beginnings.Given as goal

abbrev pub invariant-begin_in_order-loop-at : goal.invariant-begin_in_order-loop-at
invariant-begin_in_order-loop-at l = record {
  inside : l.at ≤ length l.members;
  begins : IsBeginInOrder (drop l.at l.members) l.base l.size l.begin;
}

abbrev pub decreases-begin_in_order-loop-at : goal.decreases-begin_in_order-loop-at
decreases-begin_in_order-loop-at l = l.at

abbrev pub invariant-begin_of_one-loop-at : goal.invariant-begin_of_one-loop-at
invariant-begin_of_one-loop-at l = record {
  inside : l.at ≤ length l.members;
  begins : IsBeginOfOne (drop l.at l.members) l.base l.size l.begin;
}

abbrev pub decreases-begin_of_one-loop-at : goal.decreases-begin_of_one-loop-at
decreases-begin_of_one-loop-at l = l.at

abbrev pub decreases-begin_of : goal.decreases-begin_of
decreases-begin_of l = depth_of l.pattern.now

abbrev pub decreases-begin_in_order : goal.decreases-begin_in_order
decreases-begin_in_order l = depth_of_all l.members.now

abbrev pub decreases-begin_of_one : goal.decreases-begin_of_one
decreases-begin_of_one l = depth_of_all l.members.now
