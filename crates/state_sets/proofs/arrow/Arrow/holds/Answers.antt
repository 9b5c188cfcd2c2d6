use Rattle.std.proofs.Common.{length, ap, arith}
use Rattle.std.specs.Arc.{arc_value}
use Rattle.state_sets.proofs.PartsLemmas.{length-pairs_of}
use Rattle.state_sets.proofs.arrow.Arrow.holds.Goals as goal

pub returns-clause-few : goal.returns-clause-few
returns-clause-few c = omega (arith, ap length c.self.view_is, length-pairs_of (arc_value (arc_value c.self.inside.parts).starts).items (arc_value c.self.inside.parts).classes.items (arc_value c.self.inside.parts).targets.items c.self.invariant.classed.lengths)
