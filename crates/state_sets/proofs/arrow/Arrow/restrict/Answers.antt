use Rattle.std.proofs.Common.{◌≡◌, ◌<◌, sym, ◌∙◌, subst}
use Rattle.std.specs.Prelude.{is_some}
use Rattle.std.proofs.lemmas.List.Elements.{All-filter}
use Rattle.map_theory.specs.Maps.{IsRising, target}
use Rattle.map_theory.specs.Relations.{IsRestricted}
use Rattle.map_theory.proofs.MapLemmas.{keep_law}
use Rattle.state_sets.specs.Parts.{pairs_of}
use Rattle.state_sets.specs.Within.{AreWithin}
use Rattle.state_sets.proofs.ArrowLemmas.{if_ok, restricted_is}
use Rattle.state_sets.proofs.arrow.Arrow.restrict.Goals as goal

pub built-requires-clause-rising : goal.built-requires-clause-rising
built-requires-clause-rising c = subst IsRising (sym c.in_ok-building.ensures.pairs) (keep_law (λ q. is_some (target c.args.keep.now q)) c.args.self.now c.holds.ensures.rising).rising

pub returns-clause-restricted : goal.returns-clause-restricted
returns-clause-restricted c =
    if_ok (λ m. m ≡ pairs_of c.in_ok-building.building.starts.items c.in_ok-building.building.classes.items c.in_ok-building.building.targets.keys) (IsRestricted c.args.self.now c.args.keep.now) c.built.result c.built.ensures
    (λ m is. restricted_is c.args.self.now c.args.keep.now m c.holds.ensures.rising (is ∙ c.in_ok-building.ensures.pairs))

pub returns-clause-within : goal.returns-clause-within
returns-clause-within c = λ n within.
    if_ok (λ m. m ≡ pairs_of c.in_ok-building.building.starts.items c.in_ok-building.building.classes.items c.in_ok-building.building.targets.keys) (AreWithin n) c.built.result c.built.ensures
    (λ m is. subst (AreWithin n) (sym (is ∙ c.in_ok-building.ensures.pairs)) (All-filter (λ pair. is_some (target c.args.keep.now pair.0)) (λ pair. (pair.0 < n) × (pair.1 < n)) c.args.self.now within))
