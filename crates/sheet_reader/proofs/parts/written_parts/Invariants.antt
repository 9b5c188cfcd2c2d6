use Rattle.std.proofs.Common.{◌≡◌, map}
use Rattle.outline_theory.specs.Numbering.{part_of}
use Rattle.sheet_reader.proofs.parts.written_parts.Given as goal

abbrev pub invariant-loop-one : goal.invariant-loop-one
invariant-loop-one l = l.parts.items ≡ map part_of l.yielded
