use Rattle.lr_tables.specs.Filling.{AreReducesPut}
use Rattle.lr_tables.proofs.filling.put_reduces.Given as goal

abbrev pub invariant-loop-token : goal.invariant-loop-token
invariant-loop-token l = AreReducesPut l.token l.aheads l.state l.rule l.fn.tables l.tables
