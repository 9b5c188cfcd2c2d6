use Rattle.std.proofs.Common.{◌≡◌}
use Rattle.outline_theory.specs.Words.{places}
use Rattle.sheet_reader.proofs.parts.marked_places.Given as goal

abbrev pub invariant-loop-mark : goal.invariant-loop-mark
invariant-loop-mark l = l.numbers.items ≡ places l.yielded
