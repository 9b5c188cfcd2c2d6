use Rattle.std.proofs.Common.{◌≡◌, ◌++◌, refl, sym, ◌∙◌, ap}
use Rattle.std.specs.Prelude.{Some, None, slice_index_or}
use Rattle.sample_text.specs.ClosingTexts.{by_line, by_side}
use Rattle.sample_text.proofs.closing_texts.close_symbol.Goals as goal

pub returns-in_ok-extend_from_slice-in-Some-Some : goal.returns-in_ok-extend_from_slice-in-Some-Some
returns-in_ok-extend_from_slice-in-Some-Some c = λ done.
    let here : slice_index_or c.args.found.now c.in-Token.token None ≡ Some c.in-Some-Some.line =
    ap (λ k. slice_index_or c.args.found.now k None) (sym c.token.view_is) ∙ sym (c.in-Some-Some.ensures.lookup.3.1 None) ∙ c.in-Some-Some.field-0-is in
    by_line c.in-Token.is here (c.in_ok-extend_from_slice-in-Some-Some.ensures.items ∙ ap (λ l. c.args.text.now.items ++ l) c.deref.ensures.value) refl

pub returns-in_ok-put_first-in-Name : goal.returns-in_ok-put_first-in-Name
returns-in_ok-put_first-in-Name c = λ done. by_side c.in-Name.is c.closing_side.ensures.1 refl c.in_ok-put_first-in-Name.ensures
