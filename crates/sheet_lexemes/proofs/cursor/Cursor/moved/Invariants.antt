use Rattle.std.proofs.Common.{◌≡◌}
use Rattle.lexeme_theory.specs.Lines.{line_of}
use Rattle.sheet_lexemes.proofs.cursor.Cursor.moved.Given as goal

abbrev pub invariant-loop-at : goal.invariant-loop-at
invariant-loop-at l = l.line ≡ line_of l.bytes l.at
