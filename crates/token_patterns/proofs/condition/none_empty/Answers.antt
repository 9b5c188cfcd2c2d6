use Rattle.std.proofs.Common.{arith}
use Rattle.token_patterns.proofs.ConditionLemmas.{one_count}
use Rattle.token_patterns.proofs.condition.none_empty.Goals as goal

pub begin_of-requires-clause-room : goal.begin_of-requires-clause-room
begin_of-requires-clause-room c =
    let one = one_count c.args.patterns.now c.loop-pattern.pattern-index c.pattern-item.result c.loop-pattern-test.true c.pattern-item.is in
    omega (arith, one, c.requires)
