use Rattle.std.proofs.Common.{◌≡◌, ℕ, ◌<◌, List, [], length, get_or}
use Rattle.grammar_data.specs.declared.rule.Sym.{Sym}
use Rattle.grammar_theory.specs.Rules.{IsRule}
use Rattle.item_sets.specs.Spots.{AreSpots}
use Rattle.item_sets.proofs.table.rows_of.Given as goal

abbrev pub invariant-loop-rule : goal.invariant-loop-rule
invariant-loop-rule l = record {
  count : length l.rows.items ≡ l.rule-index;
  own : (r : ℕ) → r < l.rule-index → (n : ℕ) (right : List Sym) → IsRule l.fn.grammar.rules r n right → AreSpots l.fn.grammar right (get_or l.rows.items r []);
}
