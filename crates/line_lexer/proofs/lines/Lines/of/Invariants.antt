use Rattle.std.proofs.Common.{◌≡◌, ◌+◌, ◌≤◌, ◌++◌, length}
use Rattle.scanning_theory.specs.Lines.{line_starts}
use Rattle.line_lexer.proofs.LinesLemmas.{behind_each}
use Rattle.line_lexer.proofs.lines.Lines.of.Given as goal

abbrev pub invariant-loop-feed : goal.invariant-loop-feed
invariant-loop-feed l = record {
  starts : l.starts.items ++ behind_each l.feed-iterator ≡ line_starts l.text;
  few : length l.starts.items + length l.feed-iterator ≤ length l.text;
}
