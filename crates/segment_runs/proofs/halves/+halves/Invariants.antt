use Rattle.std.proofs.Common.{◌+◌, ◌*◌, ◌-◌}
use Rattle.segment_runs.proofs.halves.+halves.Given as goal

abbrev pub decreases-parse_halves : goal.decreases-parse_halves
decreases-parse_halves g l = 2 * (l.last - l.first)

abbrev pub decreases-front : goal.decreases-front
decreases-front g l = 2 * (l.middle - l.first) + 1

abbrev pub decreases-back : goal.decreases-back
decreases-back g l = 2 * (l.last - l.middle) + 1
