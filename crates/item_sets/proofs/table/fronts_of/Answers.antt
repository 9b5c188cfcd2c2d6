use Rattle.std.proofs.Common.{◌+◌, sym, ap, subst, ◌∙◌}
use Rattle.item_sets.specs.Spots.{AreFrontsBelow}
use Rattle.item_sets.proofs.TableLemmas.{fronts_kept, fronts_pushed}
use Rattle.item_sets.proofs.table.fronts_of.Goals as goal
use Rattle.item_sets.proofs.table.fronts_of.Goals.{in-Some+in_ok-push, in_default}

pub loop-rule-preserved : goal.loop-rule-preserved
loop-rule-preserved c =
    let g = c.args.grammar.now in
    let old = c.loop-rule.spots.items in
    elim c.match-front_spot.branch [
      | in-Some+in_ok-push w ↦
          let f = w.in-Some.ensures in
          subst (λ ss. AreFrontsBelow g (c.loop-rule.rule + 1) c.args.name ss) (sym (ap (λ v. v.items) w.spots-is ∙ w.in_ok-push.ensures.items))
          (fronts_pushed g c.loop-rule.rule c.args.name old c.loop-rule.invariant w.in-Some.spot.now f.0 f.1 f.2 f.3)
      | in_default w ↦
          subst (λ ss. AreFrontsBelow g (c.loop-rule.rule + 1) c.args.name ss) (sym (ap (λ v. v.items) w.spots-is))
          (fronts_kept g c.loop-rule.rule c.args.name old c.loop-rule.invariant (λ m after rule. w.in_default.ensures m after rule))
    ]
