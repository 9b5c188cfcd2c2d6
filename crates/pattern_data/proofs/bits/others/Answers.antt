use Rattle.std.proofs.Common.{arith}
use Rattle.pattern_data.proofs.SetLemmas.{not_words-bit, small_words}
use Rattle.pattern_data.proofs.bits.others.Goals as goal

pub returns : goal.returns
returns c = λ byte below. not_words-bit c.args.words byte (small_words c.args.words (omega arith) (omega arith) (omega arith) (omega arith)) below
