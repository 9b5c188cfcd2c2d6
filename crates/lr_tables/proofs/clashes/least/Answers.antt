use Rattle.std.proofs.Common.{arith}
use Rattle.lr_tables.proofs.LeastLemmas.{some_least}
use Rattle.lr_tables.proofs.clashes.least.Goals as goal

pub unreachable-requires : goal.unreachable-requires
unreachable-requires c =
    some_least c.args.tokens.now c.requires.0 (c.loop-token.invariant.set (omega arith)) c.requires.1 (λ b less. c.loop-token.invariant.none b (omega arith))
