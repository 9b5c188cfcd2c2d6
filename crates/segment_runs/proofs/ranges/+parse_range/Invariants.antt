use Rattle.std.proofs.Common.{◌-◌}
use Rattle.segment_runs.proofs.ranges.+parse_range.Given as goal

abbrev pub decreases-parse_range : goal.decreases-parse_range
decreases-parse_range l = l.last - l.first
