-- What a contract sees of a sink in memory, and what a write does to it.
use Rattle.std.specs.Prelude.{ℕ, ◌-◌, min, Bool, ◌&&◌, ◌||◌, List, [], ◌++◌, length, take, Option, None, Some, if◌then◌else◌, ◌==◌, nat_lt}
use Rattle.lr_base.specs.Counts.{raised, is_next_among}
use Rattle.lr_base.specs.Outside.{SinkSeen}

-- the bytes taken so far, how many it has room for, how many one write takes at most, the numbers of the writes that
-- fail, how many writes there were, and how many of them failed
pub record SinkState : Type 0 where
  pub taken : List ℕ
  pub room : ℕ
  pub step : ℕ
  pub fails : List ℕ
  pub writes : ℕ
  pub faults : ℕ

-- nothing was taken, and nothing was counted
abbrev pub empty_sink : ℕ → ℕ → List ℕ → SinkState
empty_sink room step fails = record { taken = []; room = room; step = step; fails = fails; writes = 0; faults = 0 }

-- its room, where no write is to fail
abbrev pub sure_room : SinkState → ℕ
sure_room sink = (if length sink.fails == 0 then sink.room else 0)

-- what is known of the sink
abbrev pub sink_seen : SinkState → SinkSeen
sink_seen sink = record { taken = Some sink.taken; faults = sink.faults; room = sure_room sink }

-- whether a write of the piece fails: it is to fail, or the room is full and the piece isn't empty
abbrev pub refuses : SinkState → List ℕ → Bool
refuses sink piece = is_next_among sink.fails sink.writes || ((length sink.taken == sink.room) && nat_lt 0 (length piece))

-- how many bytes of the piece a write takes: as many as the piece has, one write takes and the room is left for
abbrev pub accepted : SinkState → List ℕ → ℕ
accepted sink piece = min (min (length piece) sink.step) (sink.room - length sink.taken)

-- what a write of the piece answers as its count, if it doesn't fail
abbrev pub write_count : SinkState → List ℕ → Option ℕ
write_count sink piece = (if refuses sink piece then None else Some (accepted sink piece))

-- after a write of the piece the bytes that it took stand at the end; the write is counted, and the fault where it
-- failed
abbrev pub after_write : SinkState → List ℕ → SinkState
after_write sink piece = record sink {
  taken = (if refuses sink piece then sink.taken else sink.taken ++ take (accepted sink piece) piece);
  writes = raised sink.writes;
  faults = (if refuses sink piece then raised sink.faults else sink.faults);
}
