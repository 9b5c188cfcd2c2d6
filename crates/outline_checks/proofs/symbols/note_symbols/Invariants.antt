use Rattle.std.proofs.Common.{take}
use Rattle.outline_checks.specs.Noted.{Noted}
use Rattle.outline_checks.specs.Kinds.{InSome, SymbolFault}
use Rattle.outline_checks.proofs.symbols.note_symbols.Given as goal

abbrev pub invariant-loop-symbol : goal.invariant-loop-symbol
invariant-loop-symbol l = Noted l.initial.first.fault l.first.fault (InSome (SymbolFault l.names) (take l.symbol-index l.right))
