use Rattle.answer_theory.specs.Tasks.{for_scanning}
use Rattle.lrpar_cli.proofs.InputLemmas.{long_sheet, refused_so}
use Rattle.lrpar_cli.proofs.inputs.read_scanned.Goals as goal

pub returns-in-Whole-clause-stopped : goal.returns-in-Whole-clause-stopped
returns-in-Whole-clause-stopped g c =
    let whole = rw c.in-Whole.is at c.in_ok-bytes.ensures.text in
    refused_so for_scanning _ _ _ c.scan.result whole.whole (rw c.deref.ensures.value at c.scan.ensures.refused)

pub returns-in-TooLong-clause-stopped : goal.returns-in-TooLong-clause-stopped
returns-in-TooLong-clause-stopped g c = long_sheet for_scanning _ _ _ c.long_sheet.result (rw c.in-TooLong.is at c.in_ok-bytes.ensures.text) c.long_sheet.ensures
