use Rattle.std.proofs.Common.{◌≡◌, take}
use Rattle.std.specs.List.{flat_map}
use Rattle.outline_theory.specs.Words.{use_in}
use Rattle.outline_checks.proofs.uses.template_places.Given as goal

abbrev pub invariant-loop-part : goal.invariant-loop-part
invariant-loop-part l = l.uses.items ≡ flat_map use_in (take l.part-index l.parts)
