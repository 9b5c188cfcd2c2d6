use Rattle.std.proofs.Common.{◌≡◌, ◌++◌, map, take}
use Rattle.std.specs.List.{flat_map}
use Rattle.outline_theory.specs.Layout.{part_text}
use Rattle.sheet_reader.specs.Printing.{spaced}
use Rattle.sheet_reader.proofs.print.push_parts.Given as goal

abbrev pub invariant-loop-part : goal.invariant-loop-part
invariant-loop-part l = l.text.items ≡ l.fn.text.items ++ flat_map spaced (map part_text (take l.part-index l.parts))
