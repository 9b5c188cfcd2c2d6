use Rattle.std.proofs.Common.{◌≡◌, map, ap, sym, ◌∙◌, subst}
use Rattle.map_theory.specs.Maps.{IsRising}
use Rattle.map_theory.specs.Relations.{IsIdentityOf}
use Rattle.state_sets.specs.Parts.{pairs_of}
use Rattle.state_sets.specs.Within.{AreWithin}
use Rattle.state_sets.proofs.ArrowLemmas.{if_ok, identity_is, rising_identity, identity_within, starts-pairs_of, starts-identity}
use Rattle.state_sets.proofs.arrow.Arrow.identity.Goals as goal

pub with_pairs-requires-clause-rising : goal.with_pairs-requires-clause-rising
with_pairs-requires-clause-rising c = subst IsRising (sym c.in_ok-building.ensures.pairs) (rising_identity c.args.self.now c.holds.ensures.rising)

pub with_pairs-requires-clause-starts : goal.with_pairs-requires-clause-starts
with_pairs-requires-clause-starts c =
    sym (starts-pairs_of c.in_ok-building.building.starts.items c.in_ok-building.building.classes.items c.in_ok-building.building.targets.keys c.in_ok-building.ensures.classed.lengths)
    ∙ ap (map (λ x. x.0)) c.in_ok-building.ensures.pairs ∙ starts-identity c.args.self.now

pub returns-clause-identity : goal.returns-clause-identity
returns-clause-identity c =
    if_ok (λ m. m ≡ pairs_of c.in_ok-building.building.starts.items c.in_ok-building.building.classes.items c.in_ok-building.building.targets.keys) (IsIdentityOf c.args.self.now) c.with_pairs.result c.with_pairs.ensures
    (λ m is. identity_is c.args.self.now m c.holds.ensures.rising (is ∙ c.in_ok-building.ensures.pairs))

pub returns-clause-within : goal.returns-clause-within
returns-clause-within c = λ n within.
    if_ok (λ m. m ≡ pairs_of c.in_ok-building.building.starts.items c.in_ok-building.building.classes.items c.in_ok-building.building.targets.keys) (AreWithin n) c.with_pairs.result c.with_pairs.ensures
    (λ m is. subst (AreWithin n) (sym (is ∙ c.in_ok-building.ensures.pairs)) (identity_within n c.args.self.now within))
