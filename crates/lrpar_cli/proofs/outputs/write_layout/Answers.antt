use Rattle.std.proofs.Common.{◌∙◌}
use Rattle.writing_theory.specs.Writing.{IsWritten, all_taken, part_taken}
use Rattle.writing_theory.specs.declared.fault.WriteFault.TheVariants.{Failed}
use Rattle.lrpar_cli.proofs.OutputLemmas.{err_at, not_written}
use Rattle.lrpar_cli.proofs.outputs.write_layout.Goals as goal

pub returns-in_err-text-clause-written : goal.returns-in_err-text-clause-written
returns-in_err-text-clause-written g c = not_written _ _ c.from_residual.result c.from_residual.ensures.1

pub returns-in_err-write_all-clause-written : goal.returns-in_err-write_all-clause-written
returns-in_err-write_all-clause-written g c =
    err_at (IsWritten _ _ _) c.from_residual-in_err-write_all.result Failed c.from_residual-in_err-write_all.ensures.1
    (part_taken (c.deref.ensures.value ∙ c.in_ok-text.ensures) c.in_err-write_all.ensures.failed)

pub returns-clause-written : goal.returns-clause-written
returns-clause-written g c = all_taken (c.deref.ensures.value ∙ c.in_ok-text.ensures) c.in_ok-write_all.ensures.whole
