use Rattle.std.proofs.Common.{length}
use Rattle.std.proofs.lemmas.Result.{IfOk-weaker}
use Rattle.cutting_theory.specs.Cuttings.{IsCutting, IsEven}
use Rattle.cutting_theory.proofs.BoundLemmas.{even_cuts}
use Rattle.run_inputs.proofs.source.Source.cut_even.Goals as goal

pub returns-clause-cutting : goal.returns-clause-cutting
returns-clause-cutting c =
    let count = length c.args.self.now.lines in
    IfOk-weaker c.even.result (IsEven count c.args.segments) (IsCutting count) (λ bounds is. even_cuts count c.args.segments bounds c.requires.some c.requires.few is) c.even.ensures
