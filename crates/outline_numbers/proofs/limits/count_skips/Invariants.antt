use Rattle.std.proofs.Common.{◌≡◌, ◌≤◌, take}
use Rattle.std.specs.Prelude.{sum_by}
use Rattle.outline_theory.specs.Limits.{skips_in}
use Rattle.outline_numbers.proofs.limits.count_skips.Given as goal

abbrev pub invariant-loop-decl : goal.invariant-loop-decl
invariant-loop-decl l = record {
  count : l.count ≡ sum_by skips_in (take l.decl-index l.decls);
  within : l.count ≤ l.decl-index;
}
