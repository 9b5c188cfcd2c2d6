use Rattle.std.proofs.Common.{◌≡◌, [], take}
use Rattle.piece_lists.specs.Lists.{pieces_in}
use Rattle.stack_join.proofs.parts.has_piece.Given as goal

abbrev pub invariant-loop-part : goal.invariant-loop-part
invariant-loop-part l = pieces_in (take l.part-index l.parts) ≡ []
