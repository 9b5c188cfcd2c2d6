use Rattle.std.proofs.Common.{◌≡◌, drop}
use Rattle.std.specs.List.{flat_map}
use Rattle.piece_theory.specs.Pieces.{fault_at}
use Rattle.piece_blocks.specs.Faults.{faults_in}
use Rattle.piece_blocks.proofs.faults.Faults.find.Given as goal

abbrev pub invariant-loop-event : goal.invariant-loop-event
invariant-loop-event l = fault_at (flat_map faults_in (drop l.event-index l.event-items)) l.start ≡ fault_at l.self l.start
