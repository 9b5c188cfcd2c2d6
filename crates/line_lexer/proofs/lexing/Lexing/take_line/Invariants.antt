use Rattle.std.proofs.Common.{◌-◌, ◌≤◌, List, length}
use Rattle.pattern_data.specs.declared.pattern.Pattern.{Pattern}
use Rattle.token_patterns.specs.Scanner.{IsScannerOf}
use Rattle.token_patterns.specs.Walking.{AreDeadEnds}
use Rattle.line_lexer.specs.Means.{scanning_of}
use Rattle.line_lexer.specs.Taken.{AppendsTokens}
use Rattle.line_lexer.proofs.lexing.Lexing.take_line.Given as goal

abbrev pub invariant-loop-dead_ends : goal.invariant-loop-dead_ends
invariant-loop-dead_ends l = record {
  begun : l.dead_ends.begin ≤ l.at;
  dead : AreDeadEnds l.self.scanner.now l.self.text.now l.dead_ends;
  inside : l.at ≤ length l.self.text.now;
  tokens : (patterns : List Pattern) → IsScannerOf l.self.scanner.now patterns → AppendsTokens (scanning_of patterns l.self.means.now) l.self.text.now l.line l.start l.at l.fn.tokens.items l.tokens.items;
}

abbrev pub decreases-loop-dead_ends : goal.decreases-loop-dead_ends
decreases-loop-dead_ends l = length l.self.text.now - l.at
