use Rattle.std.proofs.Common.{arith}
use Rattle.outline_reader.proofs.ReadLemmas.{line_small}
use Rattle.outline_reader.proofs.read.line_of_place.Goals as goal

pub overflow_cast-result : goal.overflow_cast-result
overflow_cast-result c =
    let small = line_small c.args.bytes.now c.args.place.at c.args.place.line c.requires.size c.requires.stands.line in omega (arith, small)
