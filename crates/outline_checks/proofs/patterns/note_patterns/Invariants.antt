use Rattle.std.proofs.Common.{take}
use Rattle.std.specs.List.{flat_map}
use Rattle.outline_theory.specs.Words.{pattern_in}
use Rattle.outline_checks.specs.Noted.{Noted}
use Rattle.outline_checks.specs.Kinds.{InSome, PatternTextFault}
use Rattle.outline_checks.proofs.patterns.note_patterns.Given as goal

abbrev pub invariant-loop-declaration : goal.invariant-loop-declaration
invariant-loop-declaration l =
    Noted l.initial.first.fault l.first.fault (InSome PatternTextFault (flat_map pattern_in (take l.declaration-index l.declarations)))
