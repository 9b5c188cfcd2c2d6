use Rattle.outline_checks.specs.Kinds.{SymbolFault}
use Rattle.outline_checks.proofs.KindLemmas.{in_some_next}
use Rattle.outline_checks.proofs.symbols.note_symbols.Goals as goal

pub loop-symbol-preserved : goal.loop-symbol-preserved
loop-symbol-preserved c = in_some_next (SymbolFault c.args.names.now) c.args.right.now c.loop-symbol.symbol-index c.symbol-item.result c.loop-symbol-test.true c.symbol-item.is c.loop-symbol.invariant c.note_symbol.ensures
