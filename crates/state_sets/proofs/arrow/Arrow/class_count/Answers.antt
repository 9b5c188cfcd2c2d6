use Rattle.std.proofs.Common.{length, ap, arith}
use Rattle.std.specs.Arc.{arc_value}
use Rattle.state_sets.proofs.ClassLemmas.{few_targets}
use Rattle.state_sets.proofs.arrow.Arrow.class_count.Goals as goal

pub overflow_cast-result : goal.overflow_cast-result
overflow_cast-result c = omega (arith, c.len.ensures, c.self.invariant.few, few_targets (arc_value (arc_value c.self.inside.parts).starts).items (arc_value c.self.inside.parts).classes.items (arc_value c.self.inside.parts).targets.items c.self.invariant.classed, ap (λ p. length p.targets.items) c.deref.ensures)
