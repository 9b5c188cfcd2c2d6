use Rattle.cutting_theory.proofs.SegmentLemmas.{segments_join}
use Rattle.cutting_theory.proofs.laws.segment_tokens_law.Goals as goal

pub returns : goal.returns
returns c = segments_join
