use Rattle.std.proofs.Common.{◌≡◌, ◌<◌, length, refl, sym, ◌∙◌, arith}
use Rattle.std.specs.Prelude.{Option, Some, None}
use Rattle.std.proofs.lemmas.List.{get_or-set_same}
use Rattle.sample_text.specs.declared.closing.Closing.{Closing}
use Rattle.sample_text.specs.Closings.{was_closed}
use Rattle.sample_text.proofs.ClosingLemmas.{found_at, is_some_of, left_same}
use Rattle.sample_text.proofs.closing.close_by.Goals as goal

pub returns-then-is_some-clause-tried : goal.returns-then-is_some-clause-tried
returns-then-is_some-clause-tried c = λ n right at.
    let left : n ≡ c.left.result = left_same c.args.grammar.now.rules c.args.rule c.left.ensures.left at in
    let place : c.left-2.inside.0 ≡ n = c.left-2.view_is ∙ sym left in
    let below : n < length c.args.closings.now.items = omega (arith, left, c.left.ensures.in_range, c.requires.size) in
    let o : Option Closing = c.index.result.now in
    let found = is_some_of o (sym c.is_some.ensures ∙ c.if-is_some.true) in
    was_closed found.0 (found_at c.args.closings.now.items c.left-2.inside.0 n o c.index.ensures place below ∙ found.1) refl

pub returns-clause-some : goal.returns-clause-some
returns-clause-some c = λ _.
    let place = c.left-2.inside.0 in
    let closing : Closing = record { rule = c.args.rule; height = c.args.height } in
    let below : place < length c.args.closings.now.items = omega (arith, c.left-2.view_is, c.left.ensures.in_range, c.requires.size) in
    (place, closing, get_or-set_same c.args.closings.now.items place (Some closing) None below, refl)
