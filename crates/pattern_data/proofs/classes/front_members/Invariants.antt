use Rattle.std.proofs.Common.{length}
use Rattle.pattern_data.proofs.MemberLemmas.{MembersSoFar}
use Rattle.pattern_data.proofs.classes.front_members.Given as goal

abbrev pub invariant-loop-range : goal.invariant-loop-range
invariant-loop-range l = MembersSoFar l.text l.words l.left

abbrev pub decreases-loop-range : goal.decreases-loop-range
decreases-loop-range l = length l.left
