use Rattle.std.proofs.Common.{◌≡◌, ℕ, ◌<◌, [], length, get_or}
use Rattle.item_sets.specs.Spots.{AreFronts}
use Rattle.item_sets.proofs.table.Table.new.Given as goal

abbrev pub invariant-loop-name : goal.invariant-loop-name
invariant-loop-name l = record {
  count : length l.fronts.items ≡ l.name;
  each : (n : ℕ) → n < l.name → AreFronts l.fn.grammar n (get_or l.fronts.items n []);
}
