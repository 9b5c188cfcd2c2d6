use Rattle.std.proofs.Common.{◌++◌, ◌∷◌, [], sym, ap, ◌∙◌, append_assoc, take}
use Rattle.landing_laws.specs.Carrying.{carried_faults}
use Rattle.stack_join.proofs.CarriedLemmas.{fault_more, clear_more}
use Rattle.stack_join.proofs.carrying.carry_faults.Goals.{in-Some+in_ok-later-in-Some+in_ok-push-in-Some, in-None}
use Rattle.stack_join.proofs.carrying.carry_faults.Goals as goal

pub loop-i-preserved : goal.loop-i-preserved
loop-i-preserved c =
    let tokens = c.args.tokens in
    let f = c.args.floor.now in
    let m = c.args.map.now in
    let before = c.args.faults.now in
    let so_far = carried_faults tokens f (take c.loop-i.i m) in
    elim c.match-fault.branch [
      | in-Some+in_ok-later-in-Some+in_ok-push-in-Some w ↦
          w.faults-is ∙ w.in_ok-push-in-Some.ensures.added ∙ ap (λ l. l ++ w.in_ok-later-in-Some.field-0 ∷ []) c.loop-i.invariant ∙ append_assoc before so_far (w.in_ok-later-in-Some.field-0 ∷ []) ∙ ap (λ x. before ++ (so_far ++ x ∷ [])) w.in_ok-later-in-Some.ensures ∙ ap (λ l. before ++ l) (sym (fault_more tokens f m c.loop-i.i c.pair-start.result.0 c.pair-start.result.1 c.pair-start.ensures w.in-Some.fault (sym c.fault.ensures ∙ w.in-Some.is)))
      | in-None w ↦
          w.faults-is ∙ c.loop-i.invariant ∙ ap (λ l. before ++ l) (sym (clear_more tokens f m c.loop-i.i c.pair-start.result.0 c.pair-start.result.1 c.pair-start.ensures (sym c.fault.ensures ∙ w.in-None.is)))
    ]
