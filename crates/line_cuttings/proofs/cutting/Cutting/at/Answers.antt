use Rattle.std.proofs.Common.{◌∙◌, length, subst, sym, ap}
use Rattle.cutting_theory.specs.Cuttings.{IsCutting, bounds_at}
use Rattle.cutting_theory.proofs.BoundLemmas.{at_cuts}
use Rattle.line_cuttings.proofs.cutting.Cutting.at.Goals as goal

pub invariant_of-result : goal.invariant_of-result
invariant_of-result c =
    let lines = length c.args.lines.now in
    let same = c.in_ok-listed_bounds.ensures ∙ ap (λ n. bounds_at n c.args.begins.now) c.count.ensures in
    (lines, subst (IsCutting lines) (sym same) (at_cuts lines c.args.begins.now c.requires))
