use Rattle.std.proofs.Common.{◌≡◌, ◌+◌, ◌<◌, [], ◌∷◌, ◌++◌, length, get_or, take, sym, ap, subst, ◌∙◌, arith}
use Rattle.std.proofs.lemmas.List.{take_more}
use Rattle.std.proofs.lemmas.List.Sums.{sum_by_more}
use Rattle.grammar_data.specs.Grammar.{Rule}
use Rattle.first_sets.specs.Openings.{AreOpenings, HasOpeningsOf}
use Rattle.first_sets.proofs.OpeningLemmas.{openings_more}
use Rattle.first_sets.proofs.opening.openings_of.Goals as goal

pub loop-rule-preserved : goal.loop-rule-preserved
loop-rule-preserved c =
    let rules = c.args.grammar.now.rules in
    let nullable = c.args.nullable.now in
    let i = c.loop-rule.rule-index in
    let left = c.rule.inside.left in
    let side = c.rule.inside.right.items in
    let old = c.loop-rule.openings.items in
    let new = c.push_openings.new.openings.items in
    let inside : i < length rules = omega (arith, ap length c.rules-rule-items.ensures.rules) in
    let item : get_or rules i c.rule-item.result ≡ (left, side) =
    ap (λ l. get_or l i c.rule-item.result) (sym c.rules-rule-items.ensures.rules) ∙ sym c.rule-item.is ∙ sym c.rule.view_is in
    let grown : take (i + 1) rules ≡ take i rules ++ (left, side) ∷ [] =
    take_more rules i c.rule-item.result inside ∙ ap (λ (x : Rule). take i rules ++ x ∷ []) item in
    let opened : HasOpeningsOf nullable left side old new =
    subst (λ l. HasOpeningsOf nullable left l old new) c.deref.ensures.value c.in_ok-push_openings.ensures in
    record {
      openings = subst (λ l. AreOpenings nullable l new) (sym grown) (openings_more nullable (take i rules) left side old new c.loop-rule.invariant.openings opened);
      few = omega (arith, opened.few, c.loop-rule.invariant.few, sum_by_more (λ (rule : Rule). length rule.1) rules i c.rule-item.result inside, ap (λ (rule : Rule). length rule.1) item);
    }
