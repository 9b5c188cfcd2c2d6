use Rattle.std.proofs.Common.{◌≢◌, take}
use Rattle.std.specs.Prelude.{All}
use Rattle.table_data.specs.declared.act.Act.TheVariants.{Error}
use Rattle.table_data.specs.Tables.{act_in}
use Rattle.state_sets.specs.Classes.{targets_of}
use Rattle.arrow_table.proofs.looking.some_errs.Given as goal

abbrev pub invariant-loop-class : goal.invariant-loop-class
invariant-loop-class l = All (λ p. act_in l.tables p l.token ≢ Error) (take l.class (targets_of l.arrow))
