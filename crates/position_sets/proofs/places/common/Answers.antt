use Rattle.std.proofs.Common.{arith}
use Rattle.position_sets.proofs.PlaceLemmas.{common_places, common_set_of_words}
use Rattle.position_sets.proofs.places.common.Goals as goal

pub returns-clause-places : goal.returns-clause-places
returns-clause-places c = common_places c.args.set.now c.args.other.now c.loop-index.both.items c.requires (omega arith) (λ k below. c.loop-index.invariant.met k (omega arith))

pub returns-clause-set : goal.returns-clause-set
returns-clause-set c = λ size h j. common_set_of_words size c.args.set.now c.args.other.now c.loop-index.both.items (omega arith) h j (λ k below. c.loop-index.invariant.met k (omega arith))
