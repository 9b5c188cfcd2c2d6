use Rattle.std.proofs.Common.{length}
use Rattle.sheet_lexemes.proofs.Spelled.{SpellsSoFar}
use Rattle.sheet_lexemes.proofs.escapes.spelled.Given as goal

abbrev pub invariant-loop-left : goal.invariant-loop-left
invariant-loop-left l = SpellsSoFar l.text l.bytes.items l.left

abbrev pub decreases-loop-left : goal.decreases-loop-left
decreases-loop-left l = length l.left
