use Rattle.std.proofs.Common.{◌≡◌, ◌+◌, ◌-◌, ◌≤◌, ◌++◌, ◌∷◌, [], IsTrue, vec_len}
use Rattle.std.specs.Io.KnownBytes.{Consumes}
use Rattle.lr_base.specs.Outside.{IsSameShelf, is_listed}
use Rattle.lr_base.specs.Reading.{IsThere}
use Rattle.lr_base.proofs.reading.read_all.Given as goal

abbrev pub invariant-loop-buffer : goal.invariant-loop-buffer
invariant-loop-buffer g l =
    let before = g.S.Shelf.seen l.fn.shelf in
    let now = g.S.Shelf.seen l.shelf in
    record {
      within : vec_len l.bytes ≤ l.limit + 1;
      there : IsThere before l.name;
      consumed : Consumes (before.stands l.name) now.left l.bytes.items;
      begun : now.begun ≡ before.begun ++ l.name ∷ [];
      kept : now.faults ≡ before.faults;
      serving : IsTrue (is_listed before.served l.name) → IsTrue now.serving;
      same : IsSameShelf before now;
    }

abbrev pub decreases-loop-buffer : goal.decreases-loop-buffer
decreases-loop-buffer g l = l.limit + 1 - vec_len l.bytes
