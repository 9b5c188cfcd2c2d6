use Rattle.std.proofs.Common.{◌≡◌, true, false, map, take}
use Rattle.std.specs.List.{list_any, list_all}
use Rattle.pattern_data.specs.Empty.{has_empty}
use Rattle.pattern_data.proofs.empty.+allows_nothing.Given as goal

abbrev pub decreases-allows_nothing : goal.decreases-allows_nothing
decreases-allows_nothing l = goal.size-allows_nothing l

abbrev pub invariant-loop-member : goal.invariant-loop-member
invariant-loop-member l = list_all (λ b. b) (map has_empty (take l.member-index l.member-items)) ≡ true

abbrev pub invariant-loop-member-2 : goal.invariant-loop-member-2
invariant-loop-member-2 l = list_any (λ b. b) (map has_empty (take l.member-index l.member-items)) ≡ false
