use Rattle.std.proofs.Common.{◌≡◌, length}
use Rattle.piece_lists.specs.Lists.{pieces_in}
use Rattle.stack_join.proofs.parts.last_part.Given as goal

abbrev pub invariant-loop-part : goal.invariant-loop-part
invariant-loop-part l = pieces_in l.fn.parts.items ≡ pieces_in l.parts.items

abbrev pub decreases-loop-part : goal.decreases-loop-part
decreases-loop-part l = length l.parts.items
