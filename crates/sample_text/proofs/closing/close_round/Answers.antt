use Rattle.std.proofs.Common.{◌<◌, List, length, sym, ◌∙◌, subst, arith}
use Rattle.std.specs.Prelude.{Option}
use Rattle.std.proofs.lemmas.Bool.{false≢true}
use Rattle.grammar_theory.specs.Rules.{IsRule}
use Rattle.grammar_laws.proofs.RangeLemmas.{in_range}
use Rattle.position_theory.proofs.StateLemmas.{get_at}
use Rattle.sample_text.specs.declared.closing.Closing.{Closing}
use Rattle.sample_text.specs.Closings.{AllAreBelow, HasHeight, IsRound}
use Rattle.sample_text.proofs.ClosingLemmas.{round_tried}
use Rattle.sample_text.proofs.closing.close_round.Goals as goal
use Rattle.sample_text.proofs.closing.close_round.Goals.{then-close_by, else-close_by}

pub loop-rule-preserved : goal.loop-rule-preserved
loop-rule-preserved c =
    let g = c.args.grammar.now in
    let r = c.loop-rule.rule in
    let old : List (Option Closing) = c.loop-rule.closings.items in
    let new : List (Option Closing) = c.close_by.new.closings.items in
    let below : r < length g.rules = omega (arith, c.loop-rule-test.true, c.rule_count-rule-end.ensures) in
    let rule = get_at g.rules r below in
    let is : IsRule g.rules r rule.0.0 rule.0.1 = record { found = rule.1 } in
    let range = in_range g c.requires.grammar in
    let step = round_tried g c.args.height r old c.requires.some c.loop-rule.invariant.round rule.0.0 rule.0.1 is (range.lefts r rule.0.0 rule.0.1 is) new (c.close_by.ensures.tried rule.0.0 rule.0.1 rule.1) in
    record {
      round = subst (λ k. IsRound g c.args.height k new) (omega arith) step;
      below = elim c.if-close_by.branch [
        | then-close_by w ↦ λ none. absurd (false≢true (sym none ∙ w.more-is))
        | else-close_by w ↦ λ none. subst (λ (l : List (Option Closing)). AllAreBelow l c.args.height) (sym (c.close_by.ensures.none w.if-close_by.false)) (c.loop-rule.invariant.below (sym w.more-is ∙ none))
      ];
      some = elim c.if-close_by.branch [
        | then-close_by w ↦ λ _. c.close_by.ensures.some w.if-close_by.true
        | else-close_by w ↦ λ more. subst (λ (l : List (Option Closing)). HasHeight l c.args.height) (sym (c.close_by.ensures.none w.if-close_by.false)) (c.loop-rule.invariant.some (sym w.more-is ∙ more))
      ];
    }
