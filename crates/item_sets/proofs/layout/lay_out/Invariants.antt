use Rattle.item_sets.specs.Layout.{IsLaid}
use Rattle.item_sets.proofs.layout.lay_out.Given as goal

abbrev pub invariant-loop-rule : goal.invariant-loop-rule
invariant-loop-rule l = IsLaid l.fn.grammar l.kernel l.aheads l.rule l.rule l.next l.entries.items
