use Rattle.std.proofs.Common.{◌-◌}
use Rattle.join_core.proofs.NodeLemmas.{IsOnWay}
use Rattle.join_core.proofs.above.node_above.Given as goal

-- the range lies within the one that was gone down to
abbrev pub invariant-loop-first : goal.invariant-loop-first
invariant-loop-first l = IsOnWay l.leaves l.first l.last l.low l.high

abbrev pub decreases-loop-first : goal.decreases-loop-first
decreases-loop-first l = l.high - l.low
