use Rattle.std.proofs.Common.{arith}
use Rattle.grammar_data.proofs.WordLemmas.{joined_numbers}
use Rattle.position_sets.proofs.PlaceLemmas.{union_set_of_words}
use Rattle.position_sets.proofs.places.union.Goals as goal

pub returns-clause-places : goal.returns-clause-places
returns-clause-places c = joined_numbers c.args.set.now.items c.args.other.now c.loop-index.set.items c.requires c.loop-index.invariant.size (λ k below. c.loop-index.invariant.joined k (omega arith))

pub returns-clause-set : goal.returns-clause-set
returns-clause-set c = λ size h j. union_set_of_words size c.args.set.now.items c.args.other.now c.loop-index.set.items c.loop-index.invariant.size h j (λ k below. c.loop-index.invariant.joined k (omega arith))
