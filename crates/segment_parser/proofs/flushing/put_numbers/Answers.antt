use Rattle.segment_parser.proofs.FlushLemmas.{put_none}
use Rattle.segment_parser.proofs.flushing.put_numbers.Goals as goal

pub loop-index-init : goal.loop-index-init
loop-index-init c = put_none c.args.ids.now c.args.places.now c.args.numbers.now
