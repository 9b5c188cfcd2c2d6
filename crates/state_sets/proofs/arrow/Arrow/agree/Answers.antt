use Rattle.std.proofs.Common.{◌≡◌, ◌<◌, ap, sym, ◌∙◌, subst}
use Rattle.std.specs.Prelude.{All}
use Rattle.map_theory.specs.Maps.{IsRising}
use Rattle.map_theory.specs.Agreements.{Agrees}
use Rattle.state_sets.specs.Classes.{targets_of, themselves}
use Rattle.state_sets.proofs.SpreadLemmas.{targets_within}
use Rattle.state_sets.proofs.AgreeLemmas.{agrees_by_classes}
use Rattle.state_sets.proofs.arrow.Arrow.agree.Goals as goal

pub agreement-requires : goal.agreement-requires
agreement-requires c =
    let targets : targets_of c.args.self.now ≡ c.deref-2.result.now = ap targets_of (sym c.self.view_is) ∙ sym c.self.invariant.classed.different ∙ sym (c.deref-2.ensures.value ∙ ap (λ p. p.targets.items) c.deref.ensures) in
    subst (λ l. All (λ p. p < c.args.t.now.states) l) targets (targets_within c.args.t.now.states c.args.self.now c.requires.within)

pub returns : goal.returns
returns c =
    let targets : targets_of c.args.self.now ≡ c.deref-2.result.now = ap targets_of (sym c.self.view_is) ∙ sym c.self.invariant.classed.different ∙ sym (c.deref-2.ensures.value ∙ ap (λ p. p.targets.items) c.deref.ensures) in
    agrees_by_classes c.args.t.now c.args.token c.args.self.now c.agreement.result (subst IsRising c.self.view_is c.self.invariant.rising)
    (subst (λ l. Agrees c.args.t.now c.args.token (themselves l) c.agreement.result) (sym targets) c.agreement.ensures)
