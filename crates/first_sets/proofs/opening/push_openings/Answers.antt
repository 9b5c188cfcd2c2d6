use Rattle.std.proofs.Common.{◌+◌, sym, subst, ◌∙◌, arith}
use Rattle.std.proofs.lemmas.Bool.{false≢true}
use Rattle.first_sets.specs.Openings.{HasOpeningsOf}
use Rattle.first_sets.proofs.OpeningLemmas.{AreOpenedTo, opened_more, opened_last}
use Rattle.first_sets.proofs.opening.push_openings.Goals as goal

pub returns-then-not-is_known_symbol : goal.returns-then-not-is_known_symbol
returns-then-not-is_known_symbol c =
    let x = c.symbol-item.result in
    subst (λ l. HasOpeningsOf c.args.nullable.now c.args.left c.args.right.now c.args.openings.now.items l) (sym c.in_ok-push.ensures.items)
    (opened_last c.args.nullable.now c.args.left c.args.right.now c.loop-symbol.symbol-index c.args.openings.now.items c.loop-symbol.openings.items x (sym c.symbol-item.is) (omega arith)
    c.loop-symbol.invariant (λ known. false≢true (sym c.if-not-is_known_symbol.true ∙ c.is_known_symbol.ensures.1 known)))

pub loop-symbol-preserved : goal.loop-symbol-preserved
loop-symbol-preserved c =
    let x = c.symbol-item.result in
    subst (λ l. AreOpenedTo c.args.nullable.now c.args.left c.args.right.now (c.loop-symbol.symbol-index + 1) c.args.openings.now.items l) (sym c.in_ok-push.ensures.items)
    (opened_more c.args.nullable.now c.args.left c.args.right.now c.loop-symbol.symbol-index c.args.openings.now.items c.loop-symbol.openings.items x (sym c.symbol-item.is) (omega arith)
    c.loop-symbol.invariant (c.is_known_symbol.ensures.0 c.if-not-is_known_symbol.false))
