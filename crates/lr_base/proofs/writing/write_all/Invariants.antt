use Rattle.std.proofs.Common.{◌≡◌, ◌-◌, ◌<◌, ◌≤◌, length, take}
use Rattle.std.specs.Io.KnownBytes.{Appends}
use Rattle.lr_base.specs.Outside.{HasSureRoom, IsSameSink}
use Rattle.lr_base.proofs.writing.write_all.Given as goal

abbrev pub invariant-loop-at : goal.invariant-loop-at
invariant-loop-at g l =
    let before = g.O.Sink.seen l.fn.sink in
    let now = g.O.Sink.seen l.sink in
    record {
      within : l.at ≤ length l.bytes;
      appended : Appends before.taken now.taken (take l.at l.bytes);
      kept : now.faults ≡ before.faults;
      same : IsSameSink before now;
      unmoved : l.at ≡ 0 → l.sink ≡ l.fn.sink;
      written : 0 < l.at → HasSureRoom now;
    }

abbrev pub decreases-loop-at : goal.decreases-loop-at
decreases-loop-at g l = length l.bytes - l.at
