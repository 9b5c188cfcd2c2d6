use Rattle.lr_machine.proofs.ExpectedLemmas.{AreExpectedBelow}
use Rattle.lr_machine.proofs.tables.Tables.expected.Given as goal

abbrev pub invariant-loop-number : goal.invariant-loop-number
invariant-loop-number l = AreExpectedBelow l.self l.state l.number l.tokens.items
