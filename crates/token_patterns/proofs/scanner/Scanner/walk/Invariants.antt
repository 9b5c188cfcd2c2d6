use Rattle.std.proofs.Common.{ℕ, ◌+◌, ◌-◌, ◌^◌, ◌<◌, ◌≤◌, List, length}
use Rattle.pattern_data.specs.declared.pattern.Pattern.{Pattern}
use Rattle.token_patterns.specs.Scanner.{IsScannerOf}
use Rattle.token_patterns.specs.Walking.{read_of, IsFound, IsRead}
use Rattle.token_patterns.proofs.scanner.Scanner.walk.Given as goal

abbrev pub invariant-loop-at : goal.invariant-loop-at
invariant-loop-at l = record {
  inside : l.state < length l.self.ends;
  small : l.state < 2 ^ 16;
  read : (patterns : List Pattern) (s : IsScannerOf l.self patterns) → IsRead l.self patterns s (read_of l.text l.from (l.at - l.from)) l.state;
  found : IsFound l.self l.text l.from l.at l.found;
}
