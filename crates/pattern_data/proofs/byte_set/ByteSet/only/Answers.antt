use Rattle.std.proofs.Common.{refl, arith}
use Rattle.pattern_data.specs.Bytes.{only_byte}
use Rattle.pattern_data.proofs.ByteLemmas.{only_byte-set, shifted_one}
use Rattle.pattern_data.proofs.byte_set.ByteSet.only.Goals as goal

pub invariant_of-result : goal.invariant_of-result
unfolding only_byte
invariant_of-result c = rw (shifted_one c.args.byte) (only_byte-set c.args.byte (omega arith) c.requires)

pub returns : goal.returns
unfolding only_byte
returns c = rw (shifted_one c.args.byte) refl
