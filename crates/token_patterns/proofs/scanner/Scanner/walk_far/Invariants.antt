use Rattle.std.proofs.Common.{◌≡◌, ◌-◌, false, length}
use Rattle.token_patterns.specs.Walking.{IsWalk}
use Rattle.token_patterns.proofs.scanner.Scanner.walk_far.Given as goal

abbrev pub invariant-loop-next : goal.invariant-loop-next
invariant-loop-next l = record { walk : IsWalk l.self l.text l.from l.walk; goes_on : l.walk.ended ≡ false }

abbrev pub decreases-loop-next : goal.decreases-loop-next
decreases-loop-next l = length l.text - l.walk.at
