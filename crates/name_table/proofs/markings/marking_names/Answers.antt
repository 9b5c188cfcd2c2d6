use Rattle.std.proofs.Common.{refl}
use Rattle.name_table.proofs.markings.marking_names.Goals as goal

pub returns : goal.returns
returns c = c.loop-test.ensures.settled refl
