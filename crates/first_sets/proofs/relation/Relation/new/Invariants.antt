use Rattle.std.proofs.Common.{◌≡◌, length}
use Rattle.first_sets.specs.Relations.{IsLinked}
use Rattle.first_sets.proofs.relation.Relation.new.Given as goal

abbrev pub invariant-loop-place : goal.invariant-loop-place
invariant-loop-place l = record {
  linked : IsLinked l.fn.pairs.items l.place l.last.items l.before.items;
  keys : length l.last.items ≡ l.keys;
}
