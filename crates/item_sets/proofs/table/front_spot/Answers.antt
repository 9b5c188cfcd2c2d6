use Rattle.std.proofs.Common.{◌≡◌, sym, ap, ◌∙◌, get_or, slice_get, Some}
use Rattle.std.proofs.lemmas.Bool.{eqb-true, not-false}
use Rattle.item_sets.proofs.TableLemmas.{IsFrontOf, opened, not_opened, token_opened}
use Rattle.item_sets.proofs.table.front_spot.Goals as goal

pub returns-in-Name : goal.returns-in-Name
returns-in-Name c =
    let same : c.left.result ≡ c.args.name = eqb-true _ _ (not-false _ (sym c.if-ne.ensures)) in
    let at : c.row.inside.spots.items ≡ get_or c.args.rows.now c.args.rule c.row.inside.spots.items = cc in
    let front : IsFrontOf c.args.grammar.now c.args.rows.now c.args.rule c.args.name c.row.inside.spots.items =
    record { are = c.requires.rows; left = c.left.ensures.left ∙ ap Some same; here = at; within = c.requires.rule } in
    opened c.args.grammar.now c.args.rows.now c.args.rule c.args.name c.row.inside.spots.items front c.in-Some.spot.now c.in-Name.field-0
    (ap (λ l. slice_get l 0) (sym c.deref.ensures.value) ∙ sym c.in-Some.ensures.value) c.in-Name.is

pub returns-in-Token : goal.returns-in-Token
returns-in-Token c =
    let same : c.left.result ≡ c.args.name = eqb-true _ _ (not-false _ (sym c.if-ne.ensures)) in
    let at : c.row.inside.spots.items ≡ get_or c.args.rows.now c.args.rule c.row.inside.spots.items = cc in
    let front : IsFrontOf c.args.grammar.now c.args.rows.now c.args.rule c.args.name c.row.inside.spots.items =
    record { are = c.requires.rows; left = c.left.ensures.left ∙ ap Some same; here = at; within = c.requires.rule } in
    token_opened c.args.grammar.now c.args.rows.now c.args.rule c.args.name c.row.inside.spots.items front c.in-Some.spot.now c.in-Token.field-0
    (ap (λ l. slice_get l 0) (sym c.deref.ensures.value) ∙ sym c.in-Some.ensures.value) c.in-Token.is

pub returns-in-None : goal.returns-in-None
returns-in-None c =
    let same : c.left.result ≡ c.args.name = eqb-true _ _ (not-false _ (sym c.if-ne.ensures)) in
    let at : c.row.inside.spots.items ≡ get_or c.args.rows.now c.args.rule c.row.inside.spots.items = cc in
    let front : IsFrontOf c.args.grammar.now c.args.rows.now c.args.rule c.args.name c.row.inside.spots.items =
    record { are = c.requires.rows; left = c.left.ensures.left ∙ ap Some same; here = at; within = c.requires.rule } in
    not_opened c.args.grammar.now c.args.rows.now c.args.rule c.args.name c.row.inside.spots.items front
    (ap (λ l. slice_get l 0) (sym c.deref.ensures.value) ∙ sym c.in-None.ensures.value)
