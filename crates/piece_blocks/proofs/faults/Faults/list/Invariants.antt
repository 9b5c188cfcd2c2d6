use Rattle.std.proofs.Common.{◌≡◌, take}
use Rattle.std.specs.List.{flat_map}
use Rattle.piece_blocks.specs.Faults.{faults_in}
use Rattle.piece_blocks.proofs.faults.Faults.list.Given as goal

abbrev pub invariant-loop-event : goal.invariant-loop-event
invariant-loop-event l = l.faults.items ≡ flat_map faults_in (take l.event-index l.event-items)
