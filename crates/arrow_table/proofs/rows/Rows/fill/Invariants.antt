use Rattle.std.proofs.Common.{◌≡◌, ℕ, ◌+◌, ◌-◌, length, get_or}
use Rattle.arrow_table.specs.declared.known.Known.TheVariants.{Nothing}
use Rattle.arrow_table.proofs.rows.Rows.fill.Given as goal

abbrev pub invariant-loop-self : goal.invariant-loop-self
invariant-loop-self l = record {
  width : l.self-inside.width ≡ l.initial.self-inside.width;
  cells : (i : ℕ) → get_or l.self-inside.cells.items i Nothing ≡ get_or l.initial.self-inside.cells.items i Nothing;
}

abbrev pub decreases-loop-self : goal.decreases-loop-self
decreases-loop-self l = l.place + 1 - length l.self-inside.cells.items
