use Rattle.segment_parser.proofs.FlushLemmas.{PutSoFar}
use Rattle.segment_parser.proofs.flushing.put_numbers.Given as goal

abbrev pub invariant-loop-index : goal.invariant-loop-index
invariant-loop-index l = PutSoFar l.initial.ids l.places l.numbers l.index l.ids
