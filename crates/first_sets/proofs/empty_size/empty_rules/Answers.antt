use Rattle.std.proofs.Common.{◌≡◌, ◌+◌, ◌<◌, [], ◌∷◌, ◌++◌, length, get_or, take, All, sym, ap, subst, ◌∙◌, arith}
use Rattle.std.proofs.lemmas.Bool.{false≢true}
use Rattle.std.proofs.lemmas.List.{take_more, length-take-le}
use Rattle.grammar_data.specs.Grammar.{Rule}
use Rattle.first_sets.specs.declared.known_names.Lists.TheVariants.{Empty}
use Rattle.first_sets.specs.KnownNames.{IsKnownSymbol}
use Rattle.first_sets.specs.EmptySizes.{AreEmptyRules}
use Rattle.first_sets.proofs.RoundLemmas.{empty_rule, other_rule}
use Rattle.first_sets.proofs.empty_size.empty_rules.Goals as goal
use Rattle.first_sets.proofs.empty_size.empty_rules.Goals.{then-are_known+in_ok-push, else-are_known}

pub loop-number-preserved : goal.loop-number-preserved
loop-number-preserved c =
    let rules = c.args.grammar.now.rules in
    let nullable = c.args.nullable.now in
    let i = c.loop-number.number in
    let left = c.rule.inside.left in
    let side = c.rule.inside.right.items in
    let numbers = c.loop-number.numbers.items in
    let now = c.if-are_known.numbers.items in
    let inside : i < length rules = omega (arith, ap length c.rules-rule-items.ensures.rules) in
    let item : get_or rules i c.rule-item.result ≡ (left, side) =
    ap (λ l. get_or l i c.rule-item.result) (sym c.rules-rule-items.ensures.rules) ∙ sym c.rule-item.is ∙ sym c.rule.view_is in
    let grown : take (i + 1) rules ≡ take i rules ++ (left, side) ∷ [] =
    take_more rules i c.rule-item.result inside ∙ ap (λ (x : Rule). take i rules ++ x ∷ []) item in
    let long : length (take i rules) ≡ i = length-take-le i rules (omega arith) in
    subst (λ l. AreEmptyRules l nullable now) (sym grown) (elim c.if-are_known.branch [
      | then-are_known+in_ok-push w ↦
          subst (λ v. AreEmptyRules (take i rules ++ (left, side) ∷ []) nullable v.items) (sym w.numbers-is)
          (subst (λ l. AreEmptyRules (take i rules ++ (left, side) ∷ []) nullable l) (sym w.in_ok-push.ensures.items)
          (subst (λ n. AreEmptyRules (take i rules ++ (left, side) ∷ []) nullable (numbers ++ n ∷ [])) long
          (empty_rule (take i rules) left side nullable numbers c.loop-number.invariant)))
      | else-are_known w ↦
          subst (λ v. AreEmptyRules (take i rules ++ (left, side) ∷ []) nullable v.items) (sym w.numbers-is)
          (other_rule (take i rules) left side nullable numbers (λ all. false≢true (sym w.if-are_known.false ∙ c.are_known.ensures.1 (subst (λ l. All (IsKnownSymbol nullable Empty) l) (sym c.deref.ensures.value) all))) c.loop-number.invariant)
    ])
