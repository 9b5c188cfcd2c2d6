use Rattle.std.proofs.Common.{◌≡◌, take}
use Rattle.sheet_reader.proofs.copies.+copies.Given as goal

abbrev pub invariant-copy_members-loop-member : goal.invariant-copy_members-loop-member
invariant-copy_members-loop-member l = l.copies.items ≡ take l.member-index l.members
