use Rattle.std.proofs.Common.{take}
use Rattle.outline_checks.specs.Noted.{Noted}
use Rattle.outline_checks.specs.Kinds.{InSome, AlternativeFault}
use Rattle.outline_checks.proofs.alternatives.note_alternatives.Given as goal

abbrev pub invariant-loop-alternative : goal.invariant-loop-alternative
invariant-loop-alternative l = Noted l.initial.first.fault l.first.fault (InSome (AlternativeFault l.names) (take l.alternative-index l.alternatives))
