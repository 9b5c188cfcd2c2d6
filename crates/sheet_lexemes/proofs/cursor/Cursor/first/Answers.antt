use Rattle.std.proofs.Common.{arith}
use Rattle.lexeme_theory.proofs.LineLemmas.{line_first}
use Rattle.sheet_lexemes.proofs.cursor.Cursor.first.Goals as goal

pub returns-clause-stands : goal.returns-clause-stands
returns-clause-stands c = λ bytes. record { inside = omega arith; line = line_first bytes }
