use Rattle.std.proofs.Common.{refl}
use Rattle.writing_theory.specs.Writing.{IsWritten, all_taken, part_taken}
use Rattle.writing_theory.specs.declared.fault.WriteFault.TheVariants.{Failed}
use Rattle.lrpar_cli.proofs.OutputLemmas.{err_at}
use Rattle.lrpar_cli.proofs.outputs.write_text.Goals as goal

pub returns-in_err-write_all-clause-written : goal.returns-in_err-write_all-clause-written
returns-in_err-write_all-clause-written g c =
    err_at (IsWritten _ _ _) c.from_residual.result Failed c.from_residual.ensures.1 (part_taken refl c.in_err-write_all.ensures.failed)

pub returns-clause-written : goal.returns-clause-written
returns-clause-written g c = all_taken refl c.in_ok-write_all.ensures.whole
