use Rattle.std.proofs.Common.{◌≡◌, ◌++◌, take}
use Rattle.node_store.specs.Kids.{kids_seen}
use Rattle.name_table.specs.Pending.{kids_at}
use Rattle.name_table.proofs.parts.push_parts.Given as goal

abbrev pub invariant-loop-place : goal.invariant-loop-place
invariant-loop-place l = l.parts.items ≡ l.initial.parts.items ++ kids_at (kids_seen l.kids) (take l.place-index l.places)
