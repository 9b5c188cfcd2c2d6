use Rattle.std.proofs.Common.{take}
use Rattle.outline_checks.specs.Noted.{Noted}
use Rattle.outline_checks.specs.Kinds.{InSome, NoTokenFault}
use Rattle.outline_checks.proofs.uses.note_grammar_names.Given as goal

abbrev pub invariant-loop-used : goal.invariant-loop-used
invariant-loop-used l = Noted l.initial.first.fault l.first.fault (InSome (NoTokenFault l.names l.right) (take l.used-index l.uses))
