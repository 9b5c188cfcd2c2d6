use Rattle.std.proofs.Common.{length, sym, subst}
use Rattle.std.specs.Prelude.{IfOk}
use Rattle.cutting_theory.specs.Cuttings.{AreBegins}
use Rattle.tally_theory.specs.Cuts.{CanBeCut, HasBounds}
use Rattle.lrpar_cli.proofs.segments.cut_lines.Goals as goal

pub even-requires-clause-some : goal.even-requires-clause-some
even-requires-clause-some c = let can = subst CanBeCut c.in-Even.is c.requires in can.0

pub even-requires-clause-few : goal.even-requires-clause-few
even-requires-clause-few c = let can = subst CanBeCut c.in-Even.is c.requires in can.1

pub returns-in-Even : goal.returns-in-Even
returns-in-Even c = subst (λ cut. IfOk c.even.result (λ cutting. HasBounds cut (length c.args.lines.now) cutting)) (sym c.in-Even.is) c.even.ensures

pub at-requires : goal.at-requires
at-requires c = subst AreBegins (sym c.as_slice.ensures) (subst CanBeCut c.in-At.is c.requires)

pub returns-in-At : goal.returns-in-At
returns-in-At c = subst (λ cut. IfOk c.at.result (λ cutting. HasBounds cut (length c.args.lines.now) cutting)) (sym c.in-At.is) (rw c.as_slice.ensures at c.at.ensures)
