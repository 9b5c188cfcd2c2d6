use Rattle.std.proofs.Common.{◌≡◌, ℕ, ◌+◌, ◌<◌, ◌≤◌, List, [], ◌∷◌, ◌++◌, take, Option, Some, None, refl, sym, ap, subst, ◌∙◌, arith}
use Rattle.std.specs.Prelude.{All, slice_get}
use Rattle.std.specs.Option.{option_map}
use Rattle.std.proofs.lemmas.List.{take_more, take_all}
use Rattle.std.proofs.lemmas.List.Elements.{All-push, All-weaker}
use Rattle.std.proofs.lemmas.Option.{slice_get_within, get_or_from_slice_get, same_Some}
use Rattle.grammar_data.specs.Grammar.{Rule}
use Rattle.arrow_table.proofs.rows.names_of.Goals as goal
use Rattle.arrow_table.proofs.rows.names_of.Goals.{then-names-left, else-names-left}

-- the names on the left of the first rules, and of one more
more_left : (rules : List Rule) (k names new left : ℕ) → option_map (λ rule. rule.0) (slice_get rules k) ≡ Some left → names ≤ new → left < new
    → All (λ rule. rule.0 < names) (take k rules) → All (λ rule. rule.0 < new) (take (k + 1) rules)
more_left rules k names new left is most more all = by_rule (slice_get rules k) refl is
  where
    before : All (λ rule. rule.0 < new) (take k rules)
    before = All-weaker (λ (rule : Rule). rule.0 < names) (λ (rule : Rule). rule.0 < new) (λ rule less. omega (arith, less, most)) (take k rules) all

    by_rule : (o : Option Rule) → slice_get rules k ≡ o → option_map (λ rule. rule.0) o ≡ Some left → All (λ rule. rule.0 < new) (take (k + 1) rules)
    by_rule None at e = absurd (cc)
    by_rule (Some rule) at e =
        let last : rule.0 ≡ left = same_Some rule.0 left e in
        subst (λ l. All (λ (rule : Rule). rule.0 < new) l) (sym (take_more rules k rule (slice_get_within rules k rule at) ∙ ap (λ x. take k rules ++ x ∷ []) (get_or_from_slice_get rules k rule rule at)))
        (All-push (λ (rule : Rule). rule.0 < new) (take k rules) rule before (omega (arith, last, more)))

pub loop-number-preserved : goal.loop-number-preserved
loop-number-preserved c =
    let most : c.loop-number.names ≤ c.if-names-left.names = elim c.if-names-left.branch [ then-names-left w ↦ omega arith | else-names-left w ↦ omega arith ] in
    let more : c.left.result < c.if-names-left.names = elim c.if-names-left.branch [ then-names-left w ↦ omega arith | else-names-left w ↦ omega arith ] in
    record {
      few = elim c.if-names-left.branch [ then-names-left w ↦ omega arith | else-names-left w ↦ omega arith ];
      left = more_left c.args.tables.now.rules c.loop-number.number c.loop-number.names c.if-names-left.names c.left.result c.left.ensures.left most more c.loop-number.invariant.left;
    }

pub returns-clause-left : goal.returns-clause-left
returns-clause-left c =
    subst (λ l. All (λ (rule : Rule). rule.0 < c.loop-number.names) l) (take_all c.loop-number.number c.args.tables.now.rules (omega (arith, c.loop-number-test.false, c.rule_count-number-end.ensures.rules))) c.loop-number.invariant.left
