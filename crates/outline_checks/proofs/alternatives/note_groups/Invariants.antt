use Rattle.std.proofs.Common.{take}
use Rattle.outline_checks.specs.Noted.{Noted}
use Rattle.outline_checks.specs.Kinds.{InSome, GroupFault}
use Rattle.outline_checks.proofs.alternatives.note_groups.Given as goal

abbrev pub invariant-loop-group : goal.invariant-loop-group
invariant-loop-group l = Noted l.initial.first.fault l.first.fault (InSome (GroupFault l.names) (take l.group-index l.groups))
