use Rattle.std.proofs.Common.{◌≡◌, ℕ, ◌<◌, Option, map, sym, ap, ◌∙◌, subst}
use Rattle.std.specs.Prelude.{All}
use Rattle.table_data.specs.Tables.{step_by}
use Rattle.map_theory.specs.Maps.{IsRising, followed}
use Rattle.map_theory.specs.Relations.{IsThenSymbol}
use Rattle.state_sets.specs.Classes.{targets_of}
use Rattle.state_sets.specs.Within.{AreWithin}
use Rattle.state_sets.proofs.SpreadLemmas.{targets_within}
use Rattle.state_sets.proofs.ArrowLemmas.{if_ok, followed_is, followed_in, step_within}
use Rattle.state_sets.proofs.arrow.Arrow.then_symbol.Goals as goal

pub after_symbol-requires-clause-states : goal.after_symbol-requires-clause-states
after_symbol-requires-clause-states c =
    let targets : targets_of c.args.self.now ≡ c.deref-2.result.now = ap targets_of (sym c.self.view_is) ∙ sym c.self.invariant.classed.different ∙ sym (c.deref-2.ensures.value ∙ ap (λ p. p.targets.items) c.deref.ensures) in
    subst (λ l. All (λ p. p < c.args.t.now.states) l) targets (targets_within c.args.t.now.states c.args.self.now c.requires.within)

pub returns-clause-then : goal.returns-clause-then
returns-clause-then c =
    let targets : targets_of c.args.self.now ≡ c.deref-2.result.now = ap targets_of (sym c.self.view_is) ∙ sym c.self.invariant.classed.different ∙ sym (c.deref-2.ensures.value ∙ ap (λ p. p.targets.items) c.deref.ensures) in
    let images : c.in_ok-images.images.items ≡ map (λ p. step_by c.args.t.now p c.args.symbol) c.deref-2.result.now = c.in_ok-images.ensures in
    let rising : IsRising c.args.self.now = subst IsRising c.self.view_is c.self.invariant.rising in
    if_ok (λ m. (f : ℕ → Option ℕ) → c.deref-3.result.now ≡ map f (targets_of c.args.self.now) → m ≡ followed (λ q p. f p) c.args.self.now) (IsThenSymbol c.args.t.now c.args.symbol c.args.self.now) c.along.result c.along.ensures
    (λ m is. followed_is (λ p. step_by c.args.t.now p c.args.symbol) c.args.self.now m rising (is (λ p. step_by c.args.t.now p c.args.symbol) (c.deref-3.ensures.value ∙ images ∙ ap (map (λ p. step_by c.args.t.now p c.args.symbol)) (sym targets))))

pub returns-clause-within : goal.returns-clause-within
returns-clause-within c =
    let targets : targets_of c.args.self.now ≡ c.deref-2.result.now = ap targets_of (sym c.self.view_is) ∙ sym c.self.invariant.classed.different ∙ sym (c.deref-2.ensures.value ∙ ap (λ p. p.targets.items) c.deref.ensures) in
    let images : c.in_ok-images.images.items ≡ map (λ p. step_by c.args.t.now p c.args.symbol) c.deref-2.result.now = c.in_ok-images.ensures in
    if_ok (λ m. (f : ℕ → Option ℕ) → c.deref-3.result.now ≡ map f (targets_of c.args.self.now) → m ≡ followed (λ q p. f p) c.args.self.now) (AreWithin c.args.t.now.states) c.along.result c.along.ensures
    (λ m is. followed_in c.args.t.now.states (λ p. step_by c.args.t.now p c.args.symbol) c.args.self.now m c.requires.within (λ p z below step. step_within c.args.t.now c.holds.ensures p c.args.symbol z step)
    (is (λ p. step_by c.args.t.now p c.args.symbol) (c.deref-3.ensures.value ∙ images ∙ ap (map (λ p. step_by c.args.t.now p c.args.symbol)) (sym targets))))
