use Rattle.std.proofs.Common.{below_more, arith}
use Rattle.lr_tables.proofs.clashes.first_clash.Goals as goal

pub loop-token-preserved : goal.loop-token-preserved
loop-token-preserved c = below_more _ _ c.loop-token.invariant c.in_default.ensures

pub unreachable-requires : goal.unreachable-requires
unreachable-requires c = c.loop-token.invariant c.requires.clash.0 (omega (arith, c.requires.clash.1)) c.requires.clash.2
