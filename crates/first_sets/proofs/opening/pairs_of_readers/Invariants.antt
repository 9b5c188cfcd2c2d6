use Rattle.std.proofs.Common.{take, length, ◌≤◌}
use Rattle.first_sets.specs.Openings.{AreReaders}
use Rattle.first_sets.proofs.opening.pairs_of_readers.Given as goal

abbrev pub invariant-loop-place : goal.invariant-loop-place
invariant-loop-place l = record {
  readers : AreReaders (take l.place l.openings) l.pairs.items;
  few : length l.pairs.items ≤ l.place;
}
