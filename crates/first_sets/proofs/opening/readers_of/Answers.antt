use Rattle.first_sets.proofs.FactLemmas.{readers_below}
use Rattle.first_sets.proofs.opening.readers_of.Goals as goal

pub new-requires-clause-keys : goal.new-requires-clause-keys
new-requires-clause-keys c = readers_below c.args.names c.args.openings.now c.in_ok-pairs.pairs.items c.requires.range c.in_ok-pairs.ensures.readers
