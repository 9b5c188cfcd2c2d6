use Rattle.std.proofs.Common.{◌≡◌, ℕ, ◌<◌, ◌+◌, List, [], ◌∷◌, length, get_or, slice_get, Some, refl, sym, ap, subst, ◌∙◌, arith}
use Rattle.std.proofs.lemmas.List.{length_push}
use Rattle.std.proofs.lemmas.Option.{slice_get_read}
use Rattle.grammar_data.specs.declared.rule.Sym.{Sym}
use Rattle.grammar_data.specs.declared.rule.Sym.TheVariants.{Name}
use Rattle.grammar_data.specs.Grammar.{Rule}
use Rattle.grammar_theory.specs.Rules.{IsRule}
use Rattle.item_sets.specs.declared.spot.Spot.{Spot}
use Rattle.item_sets.specs.Spots.{AreSpots, AreRuleSpots}
use Rattle.item_sets.proofs.TableLemmas.{each_pushed, row_of_rule, rows_whole}
use Rattle.item_sets.proofs.table.rows_of.Goals as goal

pub loop-rule-preserved : goal.loop-rule-preserved
loop-rule-preserved c =
    let g = c.args.grammar.now in
    let k = c.loop-rule.rule-index in
    let row = c.in_ok-spots_of.field-0 in
    let side = c.rule.inside.right.items in
    let within : k < length g.rules = omega (arith, ap length c.rules-rules.ensures.rules) in
    let is : c.rule-item.result ≡ get_or g.rules k c.rule-item.result = c.rule-item.is ∙ ap (λ (rs : List Rule). get_or rs k c.rule-item.result) c.rules-rules.ensures.rules in
    let at : slice_get g.rules k ≡ Some (c.rule.inside.left, side) = slice_get_read g.rules (length g.rules) k c.rule-item.result refl within is ∙ ap Some (sym c.rule.view_is) in
    let are : AreSpots g side row = subst (λ xs. AreSpots g xs row) c.deref.ensures.value c.in_ok-spots_of.ensures in
    let P : ℕ → List Spot → Type 0 = λ r ss. (n : ℕ) (right : List Sym) → IsRule g.rules r n right → AreSpots g right ss in
    record {
      count = ap length c.in_ok-push.ensures.items ∙ length_push c.loop-rule.rows.items row ∙ ap (λ m. m + 1) c.loop-rule.invariant.count;
      own = subst (λ (rows : List (List Spot)). (r : ℕ) → r < k + 1 → P r (get_or rows r [])) (sym c.in_ok-push.ensures.items)
          (each_pushed P c.loop-rule.rows.items [] row k c.loop-rule.invariant.count c.loop-rule.invariant.own (λ n right rule. row_of_rule g k c.rule.inside.left n right side row at are rule));
    }

pub returns : goal.returns
returns c =
    let g = c.args.grammar.now in
    let row = c.in_ok-spots_of-2.field-0 in
    let rows = c.loop-rule.rows.items in
    let whole : c.loop-rule.rule-index ≡ length g.rules = omega (arith, ap length c.rules-rules.ensures.rules) in
    let last : AreSpots g (Name g.start ∷ []) row = subst (λ n. AreSpots g (Name n ∷ []) row) c.start.ensures c.in_ok-spots_of-2.ensures in
    subst (λ (ss : List (List Spot)). AreRuleSpots g ss) (sym c.in_ok-push-2.ensures.items)
    (rows_whole g rows row (c.loop-rule.invariant.count ∙ whole) (λ r less. c.loop-rule.invariant.own r (omega arith)) last)
