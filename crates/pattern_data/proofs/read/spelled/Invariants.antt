use Rattle.std.proofs.Common.{length, reverse}
use Rattle.pattern_data.proofs.SpelledLemmas.{ReadsSoFar}
use Rattle.pattern_data.proofs.read.spelled.Given as goal

abbrev pub invariant-loop-left : goal.invariant-loop-left
invariant-loop-left l = ReadsSoFar l.text l.reader.group (reverse l.reader.outer.items) l.left

abbrev pub decreases-loop-left : goal.decreases-loop-left
decreases-loop-left l = length l.left
