use Rattle.std.proofs.Common.{ℕ, ◌<◌}
use Rattle.table_theory.specs.Clashes.{HasClash}
use Rattle.lr_tables.specs.EntryDeeds.{HaveItem}
use Rattle.lr_tables.proofs.clashes.first_clash.Given as goal

abbrev pub invariant-loop-token : goal.invariant-loop-token
invariant-loop-token l = (b : ℕ) → b < l.token → HasClash l.fn.grammar (HaveItem l.entries) b → ⊥
