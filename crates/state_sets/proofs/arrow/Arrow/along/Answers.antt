use Rattle.std.proofs.Common.{◌≡◌, ℕ, Option, length, map, ap, ◌∙◌, vec_len, arith}
use Rattle.std.specs.Arc.{arc_value}
use Rattle.map_theory.specs.Maps.{followed}
use Rattle.state_sets.specs.Classes.{targets_of}
use Rattle.state_sets.specs.Parts.{pairs_of}
use Rattle.state_sets.specs.Spreads.{spread_pairs}
use Rattle.state_sets.proofs.ArrowLemmas.{if_ok, along_rising, along_is, all_spread}
use Rattle.state_sets.proofs.arrow.Arrow.along.Goals as goal

pub built-requires-clause-rising : goal.built-requires-clause-rising
built-requires-clause-rising c =
    let starts : c.deref-3.result.now ≡ (arc_value (arc_value c.self.inside.parts).starts).items = c.deref-3.ensures.value ∙ ap (λ v. v.items) (c.deref-2.ensures ∙ ap (λ p. arc_value p.starts) c.deref.ensures) in
    let classes : c.deref-5.result.now ≡ (arc_value c.self.inside.parts).classes.items = c.deref-5.ensures.value ∙ ap (λ p. p.classes.items) c.deref-4.ensures in
    along_rising (arc_value (arc_value c.self.inside.parts).starts).items (arc_value c.self.inside.parts).classes.items (arc_value c.self.inside.parts).targets.items c.args.images.now (pairs_of c.in_ok-building.building.starts.items c.in_ok-building.building.classes.items c.in_ok-building.building.targets.keys) c.self.invariant
    (c.in_ok-building.ensures.pairs ∙ (λ i. spread_pairs (starts i) (classes i) c.args.images.now))

pub with_pairs-requires-clause-rising : goal.with_pairs-requires-clause-rising
with_pairs-requires-clause-rising c =
    let starts : c.deref-3.result.now ≡ (arc_value (arc_value c.self.inside.parts).starts).items = c.deref-3.ensures.value ∙ ap (λ v. v.items) (c.deref-2.ensures ∙ ap (λ p. arc_value p.starts) c.deref.ensures) in
    let classes : c.deref-5.result.now ≡ (arc_value c.self.inside.parts).classes.items = c.deref-5.ensures.value ∙ ap (λ p. p.classes.items) c.deref-4.ensures in
    along_rising (arc_value (arc_value c.self.inside.parts).starts).items (arc_value c.self.inside.parts).classes.items (arc_value c.self.inside.parts).targets.items c.args.images.now (pairs_of c.in_ok-building.building.starts.items c.in_ok-building.building.classes.items c.in_ok-building.building.targets.keys) c.self.invariant
    (c.in_ok-building.ensures.pairs ∙ (λ i. spread_pairs (starts i) (classes i) c.args.images.now))

pub with_pairs-requires-clause-starts : goal.with_pairs-requires-clause-starts
with_pairs-requires-clause-starts c =
    let starts : c.deref-3.result.now ≡ (arc_value (arc_value c.self.inside.parts).starts).items = c.deref-3.ensures.value ∙ ap (λ v. v.items) (c.deref-2.ensures ∙ ap (λ p. arc_value p.starts) c.deref.ensures) in
    let classes : c.deref-5.result.now ≡ (arc_value c.self.inside.parts).classes.items = c.deref-5.ensures.value ∙ ap (λ p. p.classes.items) c.deref-4.ensures in
    let full : length c.in_ok-building.building.starts.items ≡ length (arc_value (arc_value c.self.inside.parts).starts).items = omega (arith, c.len.ensures, c.if-len.true, c.len-2.ensures, ap vec_len (c.deref-7.ensures ∙ ap (λ p. arc_value p.starts) c.deref-6.ensures)) in
    all_spread (arc_value (arc_value c.self.inside.parts).starts).items (arc_value c.self.inside.parts).classes.items (arc_value c.self.inside.parts).targets.items c.args.images.now c.in_ok-building.building.starts.items c.in_ok-building.building.classes.items c.in_ok-building.building.targets.keys c.args.self.now
    c.self.invariant c.self.view_is c.in_ok-building.ensures.classed.lengths (c.in_ok-building.ensures.pairs ∙ (λ i. spread_pairs (starts i) (classes i) c.args.images.now)) full

pub returns-then-len : goal.returns-then-len
returns-then-len c =
    let starts : c.deref-3.result.now ≡ (arc_value (arc_value c.self.inside.parts).starts).items = c.deref-3.ensures.value ∙ ap (λ v. v.items) (c.deref-2.ensures ∙ ap (λ p. arc_value p.starts) c.deref.ensures) in
    let classes : c.deref-5.result.now ≡ (arc_value c.self.inside.parts).classes.items = c.deref-5.ensures.value ∙ ap (λ p. p.classes.items) c.deref-4.ensures in
    if_ok (λ m. m ≡ (pairs_of c.in_ok-building.building.starts.items c.in_ok-building.building.classes.items c.in_ok-building.building.targets.keys))
    (λ m. (f : ℕ → Option ℕ) → c.args.images.now ≡ map f (targets_of c.args.self.now) → m ≡ followed (λ q p. f p) c.args.self.now) c.with_pairs.result c.with_pairs.ensures
    (λ m is f are. is ∙ c.in_ok-building.ensures.pairs ∙ (λ i. spread_pairs (starts i) (classes i) c.args.images.now)
    ∙ along_is (arc_value (arc_value c.self.inside.parts).starts).items (arc_value c.self.inside.parts).classes.items (arc_value c.self.inside.parts).targets.items c.args.images.now c.args.self.now f c.self.invariant c.self.view_is are)

pub returns : goal.returns
returns c =
    let starts : c.deref-3.result.now ≡ (arc_value (arc_value c.self.inside.parts).starts).items = c.deref-3.ensures.value ∙ ap (λ v. v.items) (c.deref-2.ensures ∙ ap (λ p. arc_value p.starts) c.deref.ensures) in
    let classes : c.deref-5.result.now ≡ (arc_value c.self.inside.parts).classes.items = c.deref-5.ensures.value ∙ ap (λ p. p.classes.items) c.deref-4.ensures in
    if_ok (λ m. m ≡ (pairs_of c.in_ok-building.building.starts.items c.in_ok-building.building.classes.items c.in_ok-building.building.targets.keys))
    (λ m. (f : ℕ → Option ℕ) → c.args.images.now ≡ map f (targets_of c.args.self.now) → m ≡ followed (λ q p. f p) c.args.self.now) c.built.result c.built.ensures
    (λ m is f are. is ∙ c.in_ok-building.ensures.pairs ∙ (λ i. spread_pairs (starts i) (classes i) c.args.images.now)
    ∙ along_is (arc_value (arc_value c.self.inside.parts).starts).items (arc_value c.self.inside.parts).classes.items (arc_value c.self.inside.parts).targets.items c.args.images.now c.args.self.now f c.self.invariant c.self.view_is are)
