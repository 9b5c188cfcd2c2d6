use Rattle.std.proofs.Common.{◌<◌, ◌≤◌, take}
use Rattle.std.specs.Prelude.{All}
use Rattle.arrow_table.proofs.rows.names_of.Given as goal

abbrev pub invariant-loop-number : goal.invariant-loop-number
invariant-loop-number l = record {
  few : l.names ≤ l.tables.names;
  left : All (λ rule. rule.0 < l.names) (take l.number l.tables.rules);
}
