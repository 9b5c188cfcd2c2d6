use Rattle.std.proofs.Common.{◌≡◌, drop}
use Rattle.std.specs.List.{flat_map}
use Rattle.outline_theory.specs.Words.{starts, start_in}
use Rattle.outline_numbers.proofs.start.declared_start.Given as goal

abbrev pub invariant-loop-declaration : goal.invariant-loop-declaration
invariant-loop-declaration l = starts l.outline ≡ flat_map start_in (drop l.declaration-index l.outline.declarations)
