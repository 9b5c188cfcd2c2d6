use Rattle.std.proofs.Common.{◌≡◌, ℕ, Option, map, sym, ap, ◌∙◌, subst}
use Rattle.map_theory.specs.Maps.{target, IsRising, followed}
use Rattle.map_theory.specs.Relations.{IsComposed}
use Rattle.state_sets.specs.Classes.{targets_of}
use Rattle.state_sets.specs.Within.{AreWithin}
use Rattle.state_sets.proofs.ArrowLemmas.{if_ok, followed_is, followed_in, target_within}
use Rattle.state_sets.proofs.arrow.Arrow.compose.Goals as goal

pub returns-clause-composed : goal.returns-clause-composed
returns-clause-composed c =
    let targets : targets_of c.args.self.now ≡ c.deref-2.result.now = ap targets_of (sym c.self.view_is) ∙ sym c.self.invariant.classed.different ∙ sym (c.deref-2.ensures.value ∙ ap (λ p. p.targets.items) c.deref.ensures) in
    let images : c.in_ok-images.images.items ≡ map (target c.args.next.now) c.deref-2.result.now = c.in_ok-images.ensures in
    let rising : IsRising c.args.self.now = subst IsRising c.self.view_is c.self.invariant.rising in
    if_ok (λ m. (f : ℕ → Option ℕ) → c.deref-3.result.now ≡ map f (targets_of c.args.self.now) → m ≡ followed (λ q p. f p) c.args.self.now) (IsComposed c.args.self.now c.args.next.now) c.along.result c.along.ensures
    (λ m is. followed_is (target c.args.next.now) c.args.self.now m rising (is (target c.args.next.now) (c.deref-3.ensures.value ∙ images ∙ ap (map (target c.args.next.now)) (sym targets))))

pub returns-clause-within : goal.returns-clause-within
returns-clause-within c = λ n within also.
    let targets : targets_of c.args.self.now ≡ c.deref-2.result.now = ap targets_of (sym c.self.view_is) ∙ sym c.self.invariant.classed.different ∙ sym (c.deref-2.ensures.value ∙ ap (λ p. p.targets.items) c.deref.ensures) in
    let images : c.in_ok-images.images.items ≡ map (target c.args.next.now) c.deref-2.result.now = c.in_ok-images.ensures in
    if_ok (λ m. (f : ℕ → Option ℕ) → c.deref-3.result.now ≡ map f (targets_of c.args.self.now) → m ≡ followed (λ q p. f p) c.args.self.now) (AreWithin n) c.along.result c.along.ensures
    (λ m is. followed_in n (target c.args.next.now) c.args.self.now m within (λ p z below step. target_within n c.args.next.now p z also step)
    (is (target c.args.next.now) (c.deref-3.ensures.value ∙ images ∙ ap (map (target c.args.next.now)) (sym targets))))
