use Rattle.std.proofs.Common.{◌∙◌, ap, arith}
use Rattle.std.specs.Prelude.{◌==◌, ◌||◌}
use Rattle.pattern_data.specs.Sets.{has_bit}
use Rattle.pattern_data.proofs.SetLemmas.{ranged_more, ranged_all}
use Rattle.pattern_data.proofs.bits.insert_range.Goals as goal

pub loop-byte-preserved : goal.loop-byte-preserved
loop-byte-preserved c = λ other.
    c.insert.ensures other ∙ ap (λ t. (other == c.loop-byte.byte) || t) (c.loop-byte.invariant other)
    ∙ ranged_more c.args.range.low c.args.range.high c.loop-byte.byte other (has_bit c.args.words.now other) (omega arith) (omega arith)

pub returns : goal.returns
returns c = λ other. c.loop-byte.invariant other ∙ ranged_all c.args.range.low c.args.range.high c.loop-byte.byte other (has_bit c.args.words.now other) (omega arith)
