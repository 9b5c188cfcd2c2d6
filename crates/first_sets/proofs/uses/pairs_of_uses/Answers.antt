use Rattle.std.proofs.Common.{◌≡◌, ◌+◌, ◌<◌, [], ◌∷◌, ◌++◌, length, get_or, take, sym, ap, subst, ◌∙◌, arith}
use Rattle.std.proofs.lemmas.List.{take_more, length-take-le}
use Rattle.std.proofs.lemmas.List.Sums.{sum_by_more}
use Rattle.grammar_data.specs.Grammar.{Rule}
use Rattle.first_sets.specs.KnownNames.{AreUses, HasNamesOf}
use Rattle.first_sets.proofs.UseLemmas.{uses_more}
use Rattle.first_sets.proofs.uses.pairs_of_uses.Goals as goal

pub loop-number-preserved : goal.loop-number-preserved
loop-number-preserved c =
    let rules = c.args.grammar.now.rules in
    let i = c.loop-number.number in
    let left = c.rule.inside.left in
    let side = c.rule.inside.right.items in
    let old = c.loop-number.pairs.items in
    let new = c.push_names.new.pairs.items in
    let inside : i < length rules = omega (arith, ap length c.rules-rule-items.ensures.rules) in
    let item : get_or rules i c.rule-item.result ≡ (left, side) =
    ap (λ l. get_or l i c.rule-item.result) (sym c.rules-rule-items.ensures.rules) ∙ sym c.rule-item.is ∙ sym c.rule.view_is in
    let grown : take (i + 1) rules ≡ take i rules ++ (left, side) ∷ [] =
    take_more rules i c.rule-item.result inside ∙ ap (λ (x : Rule). take i rules ++ x ∷ []) item in
    let names : HasNamesOf side (length (take i rules)) old new =
    subst (λ n. HasNamesOf side n old new) (sym (length-take-le i rules (omega arith)))
    (subst (λ l. HasNamesOf l i old new) c.deref.ensures.value c.in_ok-push_names.ensures) in
    record {
      uses = subst (λ l. AreUses l new) (sym grown) (uses_more (take i rules) left side old new c.loop-number.invariant.uses names);
      few = omega (arith, names.few, c.loop-number.invariant.few, sum_by_more (λ (rule : Rule). length rule.1) rules i c.rule-item.result inside, ap (λ (rule : Rule). length rule.1) item);
    }
