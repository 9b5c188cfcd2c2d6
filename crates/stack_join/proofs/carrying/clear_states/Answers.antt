use Rattle.std.proofs.Common.{◌++◌, ◌∷◌, [], map, take, sym, ap, ◌∙◌}
use Rattle.landing_laws.specs.Carrying.{clear_on}
use Rattle.state_sets.specs.Classes.{targets_of}
use Rattle.stack_join.proofs.CarriedLemmas.{map_more}
use Rattle.stack_join.proofs.carrying.clear_states.Goals as goal

pub loop-class-preserved : goal.loop-class-preserved
loop-class-preserved c =
    let f = c.args.floor.now in
    c.in_ok-push.ensures.items ∙ ap (λ l. l ++ c.clear_state.result ∷ []) c.loop-class.invariant ∙ ap (λ x. map (clear_on f) (take c.loop-class.class (targets_of c.args.arrow.now)) ++ x ∷ []) c.clear_state.ensures ∙ sym (map_more (clear_on f) (targets_of c.args.arrow.now) c.loop-class.class c.class_target.result c.class_target.ensures)
