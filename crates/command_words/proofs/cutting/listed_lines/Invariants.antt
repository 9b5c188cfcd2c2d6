use Rattle.std.proofs.Common.{◌≡◌, ◌↔◌, ◌++◌, length}
use Rattle.std.specs.Str.{IsUtf8}
use Rattle.word_theory.specs.Values.{IsLinesWord, lines_in}
use Rattle.command_words.proofs.cutting.listed_lines.Given as goal

abbrev pub invariant-loop-number : goal.invariant-loop-number
invariant-loop-number l = record {
  text : IsUtf8 l.rest;
  all : IsLinesWord l.fn.word ↔ IsLinesWord l.rest;
  are : lines_in l.fn.word ≡ l.lines.items ++ lines_in l.rest;
}

abbrev pub decreases-loop-number : goal.decreases-loop-number
decreases-loop-number l = length l.rest
