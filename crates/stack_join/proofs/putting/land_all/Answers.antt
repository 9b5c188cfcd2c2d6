use Rattle.std.proofs.Common.{◌+◌, ◌∙◌, ◌∷◌, [], drop, refl, sym, append-nil, subst}
use Rattle.std.proofs.Math.ListN.{drop_of_length-le}
use Rattle.lawful_theory.specs.Lawful.{IsLawful}
use Rattle.context_laws.specs.Contexts.{LeadFromStates}
use Rattle.node_store.specs.Chunks.{store_of}
use Rattle.stack_join.specs.Joining.{IsLanding}
use Rattle.stack_join.proofs.StandingLemmas.{more_then}
use Rattle.stack_join.proofs.PartLemmas.{next_item}
use Rattle.stack_join.proofs.putting.land_all.Goals as goal

pub loop-floor-init : goal.loop-floor-init
loop-floor-init c = record { tables = refl; base = refl; stand = c.requires.stand; grows = ([], sym (append-nil c.args.arrows.now.1)); chunks = refl; closed = refl; at = λ met at. at }

pub land-requires-clause-lawful : goal.land-requires-clause-lawful
land-requires-clause-lawful c = subst IsLawful (sym c.loop-floor.invariant.tables) c.requires.lawful

pub land-requires-clause-lead : goal.land-requires-clause-lead
land-requires-clause-lead c = subst (λ t. LeadFromStates t) (sym c.loop-floor.invariant.tables) c.requires.lead

pub land-requires-clause-at : goal.land-requires-clause-at
land-requires-clause-at c =
    let at = c.requires.at in
    let ahead = next_item c.args.floors.now c.loop-floor.floor-index c.floor-item.result c.loop-floor-test.true c.floor-item.is in
    let here = subst (λ l. IsLanding c.args.arrows.now.0 at.0 (store_of c.loop-floor.store) c.loop-floor.arrows.1 c.loop-floor.leaf l) ahead (c.loop-floor.invariant.at at.0 at.1) in
    (at.0, drop (c.loop-floor.floor-index + 1) c.args.floors.now, subst (λ t. IsLanding t at.0 (store_of c.loop-floor.store) c.loop-floor.arrows.1 c.loop-floor.leaf (c.floor-item.result ∷ drop (c.loop-floor.floor-index + 1) c.args.floors.now)) (sym c.loop-floor.invariant.tables) here)

pub loop-floor-preserved : goal.loop-floor-preserved
loop-floor-preserved c =
    let later = drop (c.loop-floor.floor-index + 1) c.args.floors.now in
    let ahead = next_item c.args.floors.now c.loop-floor.floor-index c.floor-item.result c.loop-floor-test.true c.floor-item.is in
    record {
      tables = c.land.ensures.tables ∙ c.loop-floor.invariant.tables;
      base = c.land.ensures.base ∙ c.loop-floor.invariant.base;
      stand = c.in_ok-land.ensures.stand;
      grows = more_then c.args.arrows.now.1 c.loop-floor.arrows.1 c.land.new.arrows.1 c.loop-floor.invariant.grows c.land.ensures.grows;
      chunks = c.in_ok-land.ensures.chunks ∙ c.loop-floor.invariant.chunks;
      closed = c.in_ok-land.ensures.closed ∙ c.loop-floor.invariant.closed;
      at = λ met at. (
          let here = subst (λ l. IsLanding c.args.arrows.now.0 met (store_of c.loop-floor.store) c.loop-floor.arrows.1 c.loop-floor.leaf l) ahead (c.loop-floor.invariant.at met at) in
          let before = subst (λ t. IsLanding t met (store_of c.loop-floor.store) c.loop-floor.arrows.1 c.loop-floor.leaf (c.floor-item.result ∷ later)) (sym c.loop-floor.invariant.tables) here in
          subst (λ t. IsLanding t met (store_of c.land.new.store) c.land.new.arrows.1 c.land.new.leaf later) c.loop-floor.invariant.tables (c.in_ok-land.ensures.at met later before));
    }

pub returns-clause-at : goal.returns-clause-at
returns-clause-at c met at = subst (λ l. IsLanding c.args.arrows.now.0 met (store_of c.loop-floor.store) c.loop-floor.arrows.1 c.loop-floor.leaf l) (drop_of_length-le c.args.floors.now c.loop-floor-test.false) (c.loop-floor.invariant.at met at)
