use Rattle.std.proofs.Common.{get_or, arith}
use Rattle.std.specs.Int.Bits.{and_lt}
use Rattle.position_sets.proofs.PlaceLemmas.{words_meet, words_apart}
use Rattle.position_sets.proofs.places.meet.Goals as goal

pub returns-then-set-index-ne0 : goal.returns-then-set-index-ne0
returns-then-set-index-ne0 c =
    words_meet c.args.set.now c.args.other.now c.loop-index.index (and_lt 64 (get_or c.args.set.now c.loop-index.index 0) (get_or c.args.other.now c.loop-index.index 0) (omega arith) (omega arith)) c.if-set-index-ne0.true

pub returns : goal.returns
returns c = words_apart c.args.set.now c.args.other.now (λ k below. c.loop-index.invariant k (omega arith))
