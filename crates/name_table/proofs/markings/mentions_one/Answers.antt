use Rattle.std.proofs.Common.{◌≡◌, false, sym, arith}
use Rattle.name_table.specs.Markings.{is_marking}
use Rattle.name_table.proofs.MarkingLemmas.{names_more}
use Rattle.name_table.proofs.markings.mentions_one.Goals as goal

pub loop-symbol-preserved : goal.loop-symbol-preserved
loop-symbol-preserved c =
    names_more (λ n. is_marking c.args.marking.now n ≡ false) c.args.right.now c.loop-symbol.symbol-index c.symbol-item.result (omega (arith, c.loop-symbol-test.true)) (sym c.symbol-item.is) c.loop-symbol.invariant (c.is_marking_symbol.ensures c.if-is_marking_symbol.false)
