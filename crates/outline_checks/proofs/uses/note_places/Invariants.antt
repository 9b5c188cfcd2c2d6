use Rattle.std.proofs.Common.{take}
use Rattle.outline_theory.specs.Words.{places}
use Rattle.outline_checks.specs.Noted.{Noted}
use Rattle.outline_checks.specs.PlaceSets.{IsSetOf}
use Rattle.outline_checks.specs.Kinds.{PlaceFault}
use Rattle.outline_checks.proofs.uses.note_places.Given as goal

abbrev pub invariant-loop-used : goal.invariant-loop-used
invariant-loop-used l = record {
  places : IsSetOf l.places (places (take l.used-index l.uses));
  noted : Noted l.initial.first.fault l.first.fault (PlaceFault l.size (take l.used-index l.uses));
}
