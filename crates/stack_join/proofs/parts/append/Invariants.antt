use Rattle.std.proofs.Common.{◌≡◌, ◌++◌}
use Rattle.piece_lists.specs.Lists.{pieces_in}
use Rattle.stack_join.proofs.parts.append.Given as goal

abbrev pub invariant-loop-part : goal.invariant-loop-part
invariant-loop-part l = pieces_in l.parts.items ≡ pieces_in l.fn.parts.items ++ pieces_in l.yielded
