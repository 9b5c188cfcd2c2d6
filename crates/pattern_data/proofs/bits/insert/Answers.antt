use Rattle.std.proofs.Common.{arith}
use Rattle.pattern_data.proofs.SetLemmas.{inserted}
use Rattle.pattern_data.proofs.bits.insert.Goals as goal

pub returns : goal.returns
returns c = λ other. inserted c.args.words.now c.args.byte other (omega arith) (omega arith)
