use Rattle.outline_checks.specs.Kinds.{GroupFault}
use Rattle.outline_checks.proofs.KindLemmas.{in_some_next}
use Rattle.outline_checks.proofs.alternatives.note_groups.Goals as goal

pub loop-group-preserved : goal.loop-group-preserved
loop-group-preserved c = in_some_next (GroupFault c.args.names.now) c.args.groups.now c.loop-group.group-index c.group-item.result c.loop-group-test.true c.group-item.is c.loop-group.invariant c.in_ok-note_group.ensures
