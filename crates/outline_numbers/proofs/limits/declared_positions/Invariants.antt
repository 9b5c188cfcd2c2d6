use Rattle.std.proofs.Common.{◌≡◌, take}
use Rattle.std.specs.Prelude.{sum_by}
use Rattle.outline_theory.specs.Limits.{positions_in}
use Rattle.outline_numbers.proofs.limits.declared_positions.Given as goal

abbrev pub invariant-loop-decl : goal.invariant-loop-decl
invariant-loop-decl l = l.count ≡ sum_by positions_in (take l.decl-index l.decls)
