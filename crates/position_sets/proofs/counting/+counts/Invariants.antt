use Rattle.std.proofs.Common.{◌≡◌, ◌≤◌, ◌-◌, ◌^◌, min, length, drop}
use Rattle.position_theory.specs.Positions.{count_all}
use Rattle.position_sets.proofs.DepthLemmas.{depth_of, depth_of_all}
use Rattle.position_sets.proofs.counting.+counts.Given as goal

abbrev pub invariant-count_together-loop-at : goal.invariant-count_together-loop-at
invariant-count_together-loop-at l = record {
  inside : l.at ≤ length l.patterns;
  counted : l.count ≡ min (count_all (drop l.at l.patterns)) (2 ^ 64 - 1);
}

abbrev pub decreases-count_together-loop-at : goal.decreases-count_together-loop-at
decreases-count_together-loop-at l = l.at

abbrev pub decreases-count_positions : goal.decreases-count_positions
decreases-count_positions l = depth_of l.pattern.now

abbrev pub decreases-count_together : goal.decreases-count_together
decreases-count_together l = depth_of_all l.patterns.now
