use Rattle.std.proofs.Common.{◌≤◌, length, drop}
use Rattle.position_sets.specs.Follows.{AddsInOrder, AddsOfOne}
use Rattle.position_sets.proofs.DepthLemmas.{depth_of, depth_of_all}
use Rattle.position_sets.proofs.following.+followers.Given as goal

abbrev pub invariant-follow_in_order-loop-at : goal.invariant-follow_in_order-loop-at
invariant-follow_in_order-loop-at l = record {
  inside : l.at ≤ length l.members;
  adds : AddsInOrder (drop l.at l.members) l.size l.ahead l.initial.positions.items l.positions.items l.front.items;
}

abbrev pub decreases-follow_in_order-loop-at : goal.decreases-follow_in_order-loop-at
decreases-follow_in_order-loop-at l = l.at

abbrev pub invariant-follow_one-loop-at : goal.invariant-follow_one-loop-at
invariant-follow_one-loop-at l = record {
  inside : l.at ≤ length l.members;
  adds : AddsOfOne (drop l.at l.members) l.size l.ahead l.initial.positions.items l.positions.items l.front.items;
}

abbrev pub decreases-follow_one-loop-at : goal.decreases-follow_one-loop-at
decreases-follow_one-loop-at l = l.at

abbrev pub decreases-follow : goal.decreases-follow
decreases-follow l = depth_of l.pattern.now

abbrev pub decreases-follow_in_order : goal.decreases-follow_in_order
decreases-follow_in_order l = depth_of_all l.members.now

abbrev pub decreases-follow_one : goal.decreases-follow_one
decreases-follow_one l = depth_of_all l.members.now
