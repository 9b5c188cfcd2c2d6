use Rattle.std.proofs.Common.{◌≤◌}
use Rattle.segment_parser.proofs.leaf.Leaf.kept_below.Given as goal

abbrev pub invariant-loop-first : goal.invariant-loop-first
invariant-loop-first l = l.first ≤ l.place

abbrev pub decreases-loop-first : goal.decreases-loop-first
decreases-loop-first l = l.first
