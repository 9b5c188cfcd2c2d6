use Rattle.std.proofs.Common.{◌≡◌, ◌<◌, true, length, take}
use Rattle.std.specs.Prelude.{◌↔◌}
use Rattle.std.specs.List.{flat_map}
use Rattle.outline_theory.specs.Words.{start_in}
use Rattle.outline_checks.specs.Noted.{Noted}
use Rattle.outline_checks.specs.Kinds.{StartFault}
use Rattle.outline_checks.proofs.declarations.note_starts.Given as goal

abbrev pub invariant-loop-declaration : goal.invariant-loop-declaration
invariant-loop-declaration l = record {
  has : (l.has_start ≡ true) ↔ (0 < length (flat_map start_in (take l.declaration-index l.declarations)));
  noted : Noted l.initial.first.fault l.first.fault (StartFault l.names (flat_map start_in (take l.declaration-index l.declarations)));
}
