use Rattle.std.proofs.Common.{◌+◌, ◌≤◌, length, drop}
use Rattle.position_sets.specs.Joints.{AreJoint}
use Rattle.position_sets.proofs.joint.join_patterns.Given as goal

abbrev pub invariant-loop-at : goal.invariant-loop-at
invariant-loop-at l = record {
  inside : l.at ≤ length l.patterns;
  joint : AreJoint (drop l.at l.patterns) (l.ends + l.at) l.size l.positions.items l.front.items;
}

abbrev pub decreases-loop-at : goal.decreases-loop-at
decreases-loop-at l = l.at
