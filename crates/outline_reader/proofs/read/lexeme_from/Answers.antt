use Rattle.std.proofs.Common.{arith}
use Rattle.outline_reader.proofs.ReadLemmas.{line_small, bad_byte_found, syntax_found}
use Rattle.outline_reader.proofs.read.lexeme_from.Goals as goal

pub overflow_cast-result : goal.overflow_cast-result
overflow_cast-result c =
    let f = bad_byte_found c.args.bytes.now c.args.from.at c.in-Err-BadByte.field-0 c.in-Err-BadByte.line c.in-Err-BadByte.ensures.fault c.in-Err-BadByte.field-0-is in
    let small = line_small c.args.bytes.now f.at c.in-Err-BadByte.line c.requires.size f.on in omega (arith, small)

pub overflow_cast-result-in-Err-Syntax : goal.overflow_cast-result-in-Err-Syntax
overflow_cast-result-in-Err-Syntax c =
    let f = syntax_found c.args.bytes.now c.args.from.at c.in-Err-Syntax.field-0 c.in-Err-Syntax.line c.in-Err-Syntax.ensures.fault c.in-Err-Syntax.field-0-is in
    let small = line_small c.args.bytes.now f.at c.in-Err-Syntax.line c.requires.size f.on in omega (arith, small)
