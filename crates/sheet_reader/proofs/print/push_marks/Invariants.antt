use Rattle.std.proofs.Common.{◌≡◌, ◌++◌, take}
use Rattle.std.specs.List.{flat_map}
use Rattle.outline_theory.specs.Layout.{mark_words}
use Rattle.sheet_reader.specs.Printing.{spaced}
use Rattle.sheet_reader.proofs.print.push_marks.Given as goal

abbrev pub invariant-loop-place : goal.invariant-loop-place
invariant-loop-place l = l.text.items ≡ l.fn.text.items ++ flat_map spaced (flat_map mark_words (take l.place-index l.places))
