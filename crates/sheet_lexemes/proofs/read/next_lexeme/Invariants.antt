use Rattle.std.proofs.Common.{◌-◌, length}
use Rattle.lexeme_theory.specs.Reading.{AreBlanks}
use Rattle.sheet_lexemes.specs.Cursors.{IsCursor}
use Rattle.sheet_lexemes.proofs.read.next_lexeme.Given as goal

abbrev pub invariant-loop-place : goal.invariant-loop-place
invariant-loop-place l = record {
  stands : IsCursor l.bytes l.place;
  blanks : AreBlanks l.bytes l.fn.from.at l.place.at;
}

abbrev pub decreases-loop-place : goal.decreases-loop-place
decreases-loop-place l = length l.bytes - l.place.at
