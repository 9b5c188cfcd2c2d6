-- What is known of a sink that only counts its bytes.
use Rattle.std.specs.Prelude.{None}
use Rattle.lr_base.specs.Outside.{SinkSeen}

-- it tells no bytes, no call of it failed, and it has no sure room
abbrev pub untold : SinkSeen
untold = record { taken = None; faults = 0; room = 0 }
