use Rattle.std.proofs.Common.{◌≡◌}
use Rattle.segment_counts.specs.Ranges.{AreCountsTo}
use Rattle.segment_counts.proofs.counts.count_segments.Given as goal

abbrev pub invariant-loop-segment : goal.invariant-loop-segment
invariant-loop-segment l = record {
  tables : l.arrows.0 ≡ l.fn.job.tables.now;
  counts : AreCountsTo l.fn.job l.segment l.counts.tokens l.counts.pieces;
}
