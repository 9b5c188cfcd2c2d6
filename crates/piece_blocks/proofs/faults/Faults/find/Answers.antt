use Rattle.std.proofs.Common.{◌≡◌, None, sym, ◌∙◌}
use Rattle.piece_theory.specs.Pieces.{fault_at}
use Rattle.piece_blocks.specs.Faults.{faults_in}
use Rattle.piece_blocks.proofs.FaultLemmas.{found_here, found_later}
use Rattle.piece_blocks.proofs.faults.Faults.find.Goals as goal

pub returns-in-Some : goal.returns-in-Some
returns-in-Some c = found_here c.deref-event-items.result.now c.loop-event.event-index c.event-item.result c.args.start c.in-Some.fault c.loop-event-test.true c.event-item.is c.in-Some.ensures ∙ c.loop-event.invariant

pub loop-event-preserved : goal.loop-event-preserved
loop-event-preserved c =
    let none : None ≡ fault_at (faults_in c.event-item.result) c.args.start = sym c.in_default.is ∙ c.find.ensures in
    found_later c.deref-event-items.result.now c.loop-event.event-index c.event-item.result c.args.start c.loop-event-test.true c.event-item.is none ∙ c.loop-event.invariant
