use Rattle.std.proofs.Common.{arith}
use Rattle.std.specs.Prelude.{◌*◌}
use Rattle.token_patterns.proofs.AheadLemmas.{ahead_all}
use Rattle.token_patterns.proofs.ahead.ahead_of.Goals as goal

pub returns-clause-places : goal.returns-clause-places
returns-clause-places c = ahead_all c.args.positions.now c.args.set.now c.loop-index.ahead.items (64 * c.loop-index.index) (omega arith) c.loop-index.invariant.places
