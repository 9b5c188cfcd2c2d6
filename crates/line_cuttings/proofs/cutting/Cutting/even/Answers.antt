use Rattle.std.proofs.Common.{length, subst}
use Rattle.cutting_theory.specs.Cuttings.{IsEven}
use Rattle.cutting_theory.proofs.BoundLemmas.{even_cuts}
use Rattle.line_cuttings.proofs.cutting.Cutting.even.Goals as goal

pub invariant_of-result : goal.invariant_of-result
invariant_of-result c =
    let bounds = c.in_ok-even_bounds.field-0.items in
    let even = subst (λ n. IsEven n c.args.segments bounds) c.count.ensures c.in_ok-even_bounds.ensures in
    (length c.args.lines.now, even_cuts (length c.args.lines.now) c.args.segments bounds c.requires.some c.requires.few even)
