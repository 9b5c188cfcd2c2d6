use Rattle.std.proofs.Common.{◌≡◌, ◌+◌, take, ◌++◌, [], ◌∷◌, sym, ap, ◌∙◌, subst}
use Rattle.std.proofs.lemmas.List.{take_more}
use Rattle.map_theory.specs.Agreements.{Agrees}
use Rattle.map_theory.proofs.AgreementLemmas.{agrees_more}
use Rattle.state_sets.specs.Classes.{themselves}
use Rattle.state_sets.proofs.AgreeLemmas.{push_adds}
use Rattle.state_sets.proofs.agreeing.agreement.Goals as goal

pub loop-state-preserved : goal.loop-state-preserved
loop-state-preserved c =
    let more : take (c.loop-state.state-index + 1) c.args.states.now ≡ take c.loop-state.state-index c.args.states.now ++ c.state-item.result ∷ [] =
    take_more c.args.states.now c.loop-state.state-index c.state-item.result c.loop-state-test.true ∙ ap (λ x. take c.loop-state.state-index c.args.states.now ++ x ∷ []) (sym c.state-item.is) in
    subst (λ l. Agrees c.args.t.now c.args.token (themselves l) c.joined-agree.result) (sym more)
    (subst (Agrees c.args.t.now c.args.token (themselves (take c.loop-state.state-index c.args.states.now ++ c.state-item.result ∷ []))) (sym c.joined-agree.ensures)
    (agrees_more c.args.t.now c.args.token c.state-item.result (themselves (take c.loop-state.state-index c.args.states.now)) (themselves (take c.loop-state.state-index c.args.states.now ++ c.state-item.result ∷ []))
    (push_adds (take c.loop-state.state-index c.args.states.now) c.state-item.result) c.act.result (sym c.act.ensures.act) c.loop-state.agree c.loop-state.invariant))
