use Rattle.std.proofs.Common.{◌≡◌, ℕ, ◌<◌, List, length, get_or, set, sym, ap, ◌∙◌, arith}
use Rattle.std.specs.Prelude.{slice_get, Some}
use Rattle.std.specs.Global.{Vec}
use Rattle.std.proofs.lemmas.List.{length-set}
use Rattle.std.proofs.lemmas.Option.{slice_get-get_or}
use Rattle.position_theory.proofs.StateLemmas.{get_at}
use Rattle.sample_text.proofs.AlternativeLemmas.{rules_before, rules_are, lists_pushed}
use Rattle.sample_text.proofs.ClosingLemmas.{left_same}
use Rattle.sample_text.proofs.alternatives.rules_by_name.Goals as goal

pub loop-rule-preserved : goal.loop-rule-preserved
loop-rule-preserved c =
    let rules = c.args.grammar.now.rules in
    let r = c.loop-rule.rule in
    let lists : List (Vec ℕ) = c.loop-rule.lists.items in
    let rule = get_at rules r (omega (arith, c.loop-rule-test.true, c.rule_count-rule-end.ensures)) in
    let left : rule.0.0 ≡ c.left.result = left_same rules r c.left.ensures.left rule.1 in
    let place : rule.0.0 ≡ c.index_mut.inside.0 = left ∙ sym c.index_mut.view_is in
    let below : rule.0.0 < length lists = omega (arith, left, c.left.ensures.in_range, c.loop-rule.invariant.size) in
    let old : Vec ℕ = c.index_mut-in-loop-rule.result.now in
    let v : Vec ℕ = c.push-in-loop-rule.new.self in
    let here : slice_get lists rule.0.0 ≡ Some old = (let v_is = c.index_mut-in-loop-rule.ensures.value in slice_get-get_or lists rule.0.0 old below ∙ ap Some (ap (λ k. get_or lists k old) place ∙ sym v_is)) in
    record {
      size = length-set lists c.index_mut.inside.0 v ∙ c.loop-rule.invariant.size;
      lists = λ n list at. lists_pushed rules lists r rule.0.0 rule.0.1 rule.1 c.loop-rule.invariant.lists old v here c.in_ok-push-2.ensures.items n list (ap (λ k. slice_get (set lists k v) n) place ∙ at);
    }

pub returns-clause-lists : goal.returns-clause-lists
returns-clause-lists c = λ n list at.
    let end : c.loop-rule.rule ≡ length c.args.grammar.now.rules = omega (arith, c.loop-rule-test.false, c.loop-rule.auto.rule-end, c.rule_count-rule-end.ensures) in
    c.loop-rule.invariant.lists n list at ∙ ap (rules_before c.args.grammar.now.rules n) end ∙ rules_are c.args.grammar.now.rules n
