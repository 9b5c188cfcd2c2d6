use Rattle.std.specs.Bool.{nat_eq}
use Rattle.std.proofs.lemmas.Bool.Decides.{Decides-eqb}
use Rattle.outline_checks.specs.PlaceSets.{has_place}
use Rattle.outline_checks.proofs.SetLemmas.{has_more}
use Rattle.outline_checks.proofs.place_set.PlaceSet.add.Goals as goal

pub returns-clause-more : goal.returns-clause-more
returns-clause-more c =
    λ places h. record { same = has_more nat_eq Decides-eqb (λ p. has_place c.args.self.now p) (λ p. has_place (record { places = c.insert.new.self }) p) places c.args.place h.same (λ p. c.in_ok-is_new.ensures.updates.0 p) }
