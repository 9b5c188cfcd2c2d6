use Rattle.std.proofs.Common.{◌∙◌}
use Rattle.lrpar_cli.proofs.OutputLemmas.{not_written, written_as, list_is}
use Rattle.lrpar_cli.proofs.outputs.write_tokens.Goals as goal

pub returns-in_err-lexed-clause-written : goal.returns-in_err-lexed-clause-written
returns-in_err-lexed-clause-written g c = not_written _ _ c.from_residual.result c.from_residual.ensures.1

pub returns-in_err-names-clause-written : goal.returns-in_err-names-clause-written
returns-in_err-names-clause-written g c = not_written _ _ c.from_residual-in_err-names.result c.from_residual-in_err-names.ensures.1

pub returns-clause-written : goal.returns-clause-written
returns-clause-written g c =
    let tokens = c.in_ok-lexed.lexed.tokens.items in
    let same = list_is c.args.scanned.now.sheet c.args.text.now _ _ _ tokens (c.deref.ensures.value ∙ c.in_ok-names.ensures) c.in_ok-lexed.ensures.lines c.deref-2.ensures.value in
    written_as _ _ _ _ (λ text is. record { tokens = tokens; are = c.in_ok-lexed.ensures.tokens; is = is ∙ same }) c.write_list.ensures.written
