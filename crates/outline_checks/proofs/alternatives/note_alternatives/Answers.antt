use Rattle.outline_checks.specs.Kinds.{AlternativeFault}
use Rattle.outline_checks.proofs.KindLemmas.{in_some_next}
use Rattle.outline_checks.proofs.alternatives.note_alternatives.Goals as goal

pub loop-alternative-preserved : goal.loop-alternative-preserved
loop-alternative-preserved c = in_some_next (AlternativeFault c.args.names.now) c.args.alternatives.now c.loop-alternative.alternative-index c.alternative-item.result c.loop-alternative-test.true c.alternative-item.is c.loop-alternative.invariant c.in_ok-note_alternative.ensures
