use Rattle.std.proofs.Common.{◌≡◌, ℕ, List, ◌++◌, refl, sym, ap, ◌∙◌}
use Rattle.std.specs.Prelude.{Option, Some, None, slice_index_or}
use Rattle.std.specs.Global.{Vec}
use Rattle.std.proofs.lemmas.Result.{IfOk-weaker, IfErr-weaker}
use Rattle.sample_text.specs.Wording.{IsLonger}
use Rattle.sample_text.specs.ClosingTexts.{IsClosedOn, IsPast, by_text, by_rule}
use Rattle.sample_text.proofs.ClosingTextLemmas.{longer_past}
use Rattle.sample_text.proofs.closing_texts.close.Goals as goal

-- the lines that are kept of the name
kept : (c : goal.After-append) → slice_index_or c.if-is_empty.texts.items c.args.name None ≡ Some c.in-Some-Some.lines
kept c =
    ap (λ k. slice_index_or c.if-is_empty.texts.items k None) (sym c.name.view_is) ∙ ap (λ (l : List (Option (Vec ℕ))). slice_index_or l c.name.inside.0 None) (sym c.deref.ensures.value)
    ∙ sym (c.in-Some-Some.ensures.lookup.3.1 None) ∙ c.in-Some-Some.field-0-is

pub returns-in-Some-Some-clause-closed : goal.returns-in-Some-Some-clause-closed
returns-in-Some-Some-clause-closed c =
    IfOk-weaker c.append.result (λ _. c.append.new.text.items ≡ c.args.text.now.items ++ c.deref-in-Some-Some.result.now)
    (λ _. IsClosedOn c.args.chooser.now.grammar.now c.if-is_empty.texts.items c.args.name c.args.todo.now.items c.args.text.now.items c.args.todo.now.items c.append.new.text.items)
    (λ _ same. by_text (kept c) (same ∙ ap (λ l. c.args.text.now.items ++ l) c.deref-in-Some-Some.ensures.value) refl) c.append.ensures.text

pub returns-in-Some-Some-clause-fault : goal.returns-in-Some-Some-clause-fault
returns-in-Some-Some-clause-fault c =
    IfErr-weaker c.append.result (IsLonger c.args.text.now.items c.deref-in-Some-Some.result.now) (IsPast c.if-is_empty.texts.items c.args.name c.args.text.now.items)
    (longer_past c.if-is_empty.texts.items c.args.name c.in-Some-Some.lines c.args.text.now.items c.deref-in-Some-Some.result.now (kept c) c.deref-in-Some-Some.ensures.value) c.append.ensures.fault

pub returns-in_ok-put_first-in-Some-None-clause-closed : goal.returns-in_ok-put_first-in-Some-None-clause-closed
returns-in_ok-put_first-in-Some-None-clause-closed c = by_rule c.closing_side.ensures.1 refl c.in_ok-put_first-in-Some-None.ensures
