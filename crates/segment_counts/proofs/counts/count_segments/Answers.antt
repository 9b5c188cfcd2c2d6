use Rattle.std.proofs.Common.{rules, ◌≡◌, subst, ◌∙◌, arith}
use Rattle.cutting_theory.specs.Cuttings.{segments_of}
use Rattle.segment_counts.specs.Ranges.{AreCountsTo}
use Rattle.segment_counts.proofs.CountLemmas.{all_counted, none_counted}
use Rattle.segment_counts.proofs.counts.count_segments.Goals as goal

pub loop-segment-init : goal.loop-segment-init
loop-segment-init c = record { tables = search rules; counts = none_counted c.args.job.now }

pub returns : goal.returns
returns c =
    let end : c.loop-segment.segment ≡ c.segments-segment-end.result = omega arith in
    let all : c.loop-segment.segment ≡ segments_of c.args.job.now.cutting.now = end ∙ c.segments-segment-end.ensures in
    all_counted c.args.job.now c.loop-segment.counts (subst (λ n. AreCountsTo c.args.job.now n c.loop-segment.counts.tokens c.loop-segment.counts.pieces) all c.loop-segment.invariant.counts)
