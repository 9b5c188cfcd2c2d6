use Rattle.std.proofs.Common.{◌≡◌, ap, sym, ◌∙◌, arith}
use Rattle.sheet_theory.specs.Names.{token_names}
use Rattle.sheet_reader.specs.Parts.{parts_of}
use Rattle.sheet_reader.proofs.TextLemmas.{few_tokens, take_found, all_names}
use Rattle.sheet_reader.proofs.sheet.Sheet.token_texts.Goals as goal

pub overflow_add-total : goal.overflow_add-total
overflow_add-total c = omega (arith, few_tokens (parts_of c.self.inside) c.self.invariant, c.tokens-total.ensures)

pub loop-number-preserved : goal.loop-number-preserved
loop-number-preserved c =
    let more = take_found (token_names c.args.self.now) c.loop-number.number c.in_ok-text.text.items c.in_ok-text.ensures in
    let pushed = c.in_ok-push.ensures.items in
    let named = c.from_vec.ensures in
    cc (pushed, named, more, c.loop-number.invariant)

pub returns : goal.returns
returns c =
    let total : c.loop-number.texts.items ≡ token_names (parts_of c.self.inside) =
    rw (sym c.self.view_is) at (c.loop-number.invariant) ∙ all_names (parts_of c.self.inside) c.loop-number.number c.self.invariant (omega (arith, c.tokens-total.ensures, c.loop-number-test.false)) in
    total ∙ ap token_names c.self.view_is
