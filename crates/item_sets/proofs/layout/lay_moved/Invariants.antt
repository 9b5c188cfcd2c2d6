use Rattle.std.proofs.Common.{◌≡◌, suc, ◌-◌, ◌<◌, ◌≤◌, ◌++◌, length, drop, All}
use Rattle.collection_data.specs.declared.entry.Entry.{Entry}
use Rattle.item_sets.proofs.layout.lay_moved.Given as goal

abbrev pub invariant-loop-next : goal.invariant-loop-next
invariant-loop-next l = record {
  on : l.at ≤ l.next;
  within : l.next ≤ length l.kernel;
  same : l.entries.items ++ drop l.next l.kernel ≡ l.fn.entries.items ++ drop l.at l.kernel;
  below : All (λ (e : Entry). e.rule < suc l.rule) l.fn.entries.items → All (λ (e : Entry). e.rule < suc l.rule) l.entries.items;
}

abbrev pub decreases-loop-next : goal.decreases-loop-next
decreases-loop-next l = length l.kernel - l.next
