use Rattle.std.proofs.Common.{◌≡◌, ◌++◌, take}
use Rattle.std.specs.List.{flat_map}
use Rattle.pattern_data.proofs.PrintLemmas.{sequence_text, bar_text}
use Rattle.pattern_data.proofs.print.+write.Given as goal

abbrev pub invariant-write-loop-member : goal.invariant-write-loop-member
invariant-write-loop-member l = l.text.items ≡ l.initial.text.items ++ flat_map sequence_text (take l.member-index l.member-items)

abbrev pub invariant-write-loop-other : goal.invariant-write-loop-other
invariant-write-loop-other l = l.text.items ≡ l.initial.text.items ++ flat_map bar_text (take l.other-index l.others)
