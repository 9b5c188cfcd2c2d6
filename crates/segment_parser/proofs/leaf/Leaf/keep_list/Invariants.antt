use Rattle.segment_parser.proofs.FlushLemmas.{AreNumbersOf}
use Rattle.segment_parser.proofs.leaf.Leaf.keep_list.Given as goal

abbrev pub invariant-loop-place : goal.invariant-loop-place
invariant-loop-place l = AreNumbersOf l.self.ids.items l.places l.place-index l.keep.items
