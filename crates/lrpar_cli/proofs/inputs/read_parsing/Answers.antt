use Rattle.std.proofs.Common.{IfErr}
use Rattle.answer_theory.specs.Tasks.{for_parsing}
use Rattle.lrpar_cli.specs.Inputs.{IsSheetStop}
use Rattle.lrpar_cli.proofs.InputLemmas.{parsing_stop, grammar_stop}
use Rattle.lrpar_cli.proofs.OutputLemmas.{err_at}
use Rattle.lrpar_cli.proofs.inputs.read_parsing.Goals as goal

pub returns-in_err-scanned-clause-stopped : goal.returns-in_err-scanned-clause-stopped
returns-in_err-scanned-clause-stopped g c =
    let stop = c.in_err-scanned.field-0.0 in
    err_at (λ r. IfErr r (λ s. IsSheetStop for_parsing (g.S.Shelf.seen c.args.shelf.now) c.args.name.now s)) c.from_residual.result stop c.from_residual.ensures.1 (parsing_stop _ _ stop c.in_err-scanned.ensures.stopped)

pub returns-in_err-built-clause-stopped : goal.returns-in_err-built-clause-stopped
returns-in_err-built-clause-stopped g c =
    let stop = c.in_err-built.field-0.0 in
    err_at (λ r. IfErr r (λ s. IsSheetStop for_parsing (g.S.Shelf.seen c.args.shelf.now) c.args.name.now s)) c.from_residual-in_err-built.result stop c.from_residual-in_err-built.ensures.1 (grammar_stop _ _ _ stop c.in_ok-scanned.ensures.sheet c.in_err-built.ensures.refused)
