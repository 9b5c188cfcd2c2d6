use Rattle.std.proofs.Common.{◌+◌, ◌-◌, ◌≤◌, length}
use Rattle.plain_parse.specs.Runs.{IsRun}
use Rattle.plain_parse.proofs.parsing.parse_one.Given as goal

abbrev pub invariant-loop-run : goal.invariant-loop-run
invariant-loop-run l = record {
  run : IsRun l.tables l.tokens l.index l.run;
  within : l.index ≤ length l.tokens;
}

abbrev pub decreases-loop-run : goal.decreases-loop-run
decreases-loop-run l = length l.tokens + 1 - l.index
