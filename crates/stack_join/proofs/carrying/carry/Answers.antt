use Rattle.std.proofs.Common.{◌≡◌, ◌≤◌, ℕ, ◌++◌, Option, map, sym, ap, ◌∙◌, subst, All, IsSome}
use Rattle.map_theory.specs.Maps.{followed, StateMap}
use Rattle.state_sets.specs.Classes.{targets_of}
use Rattle.state_sets.specs.Within.{AreWithin}
use Rattle.arrow_table.specs.Looks.{map_at}
use Rattle.landing_laws.specs.Carrying.{clear_on, carried_faults}
use Rattle.stack_join.specs.Joining.{over_id}
use Rattle.stack_join.proofs.CarryLemmas.{none_carried, some_carried, clear_within}
use Rattle.stack_join.proofs.StandingLemmas.{more_then}
use Rattle.stack_join.proofs.NumberLemmas.{over_stands}
use Rattle.stack_join.proofs.carrying.carry.Goals as goal

pub returns-then-all_stay-clause-carried : goal.returns-then-all_stay-clause-carried
returns-then-all_stay-clause-carried c =
    let maps = c.args.arrows.now.1 in
    let f = c.args.floor.now in
    let same : c.map.result.now ≡ map_at maps (over_id c.args.leaf.now) = c.map.ensures.map ∙ ap (map_at maps) c.over-top.ensures in
    none_carried c.class_laws.ensures f maps c.args.leaf.now c.in_ok-images.images.items c.requires.has
    (c.in_ok-images.ensures ∙ ap (λ m. map (clear_on f) (targets_of m)) same)
    (subst (λ l. All {X = Option ℕ} (λ image. IsSome image) l) c.deref.ensures.value (c.all_stay.ensures.all c.if-all_stay.true))

pub add-requires : goal.add-requires
add-requires c =
    let f = c.args.floor.now in
    let same : c.map.result.now ≡ c.map-3.result.now = c.map.ensures.map ∙ sym c.map-3.ensures.map in
    let images : c.deref-2.result.now ≡ map (clear_on f) (targets_of c.map-3.result.now) = c.deref-2.ensures.value ∙ c.in_ok-images.ensures ∙ ap (λ m. map (clear_on f) (targets_of m)) same in
    subst (AreWithin c.args.arrows.now.0.states) (sym (c.in_ok-left.ensures (clear_on f) images)) (clear_within c.args.arrows.now.0.states f c.map-3.result.now c.map-3.ensures.within)

pub returns-clause-carried : goal.returns-clause-carried
returns-clause-carried c =
    let maps = c.args.arrows.now.1 in
    let f = c.args.floor.now in
    let s = c.args.leaf.now in
    let same2 : c.map-2.result.now ≡ map_at maps (over_id s) = c.map-2.ensures.map ∙ ap (map_at maps) c.over-top.ensures in
    let same3 : c.map-3.result.now ≡ map_at maps (over_id s) = c.map-3.ensures.map ∙ ap (map_at maps) c.over-top.ensures in
    let same : c.map.result.now ≡ c.map-3.result.now = c.map.ensures.map ∙ sym c.map-3.ensures.map in
    let images : c.deref-2.result.now ≡ map (clear_on f) (targets_of c.map-3.result.now) = c.deref-2.ensures.value ∙ c.in_ok-images.ensures ∙ ap (λ m. map (clear_on f) (targets_of m)) same in
    let lost = c.in_ok-lose.ensures in
    some_carried {f = f} {maps = maps} {mid = c.add.new.self.1} {new = c.lose.new.arrows.1} {s = s} {after = c.lose.new.leaf} {id = c.in_ok-left-2.left} c.requires.has
    record {
      grows = c.add.ensures.grows;
      grows_on = c.lose.ensures.grows;
      within = c.in_ok-left-2.ensures.within;
      left = c.in_ok-left-2.ensures.map ∙ c.in_ok-left.ensures (clear_on f) images ∙ ap (λ (m : StateMap). followed (λ q p. clear_on f p) m) same3;
      starts = lost.starts;
      own = lost.own;
      ids = lost.ids;
      stale = lost.stale;
      block = lost.same.0;
      faults = lost.same.1 ∙ c.in_ok-carry_faults.ensures ∙ ap (λ (m : StateMap). s.faults ++ carried_faults s.count f m) same2;
      opened = lost.same.2;
      first = lost.same.3;
      count = lost.same.4;
    }

pub returns-in_err-lose-clause-grows : goal.returns-in_err-lose-clause-grows
returns-in_err-lose-clause-grows c = more_then c.args.arrows.now.1 c.add.new.self.1 c.lose.new.arrows.1 c.add.ensures.grows c.lose.ensures.grows

pub map-requires-clause-stands : goal.map-requires-clause-stands
map-requires-clause-stands c = subst (λ n. c.args.arrows.now.2 ≤ n) (sym c.over-top.ensures) (over_stands c.args.arrows.now.2 c.args.leaf.now c.requires.stand)

pub map-requires-2-clause-stands : goal.map-requires-2-clause-stands
map-requires-2-clause-stands c = subst (λ n. c.args.arrows.now.2 ≤ n) (sym c.over-top.ensures) (over_stands c.args.arrows.now.2 c.args.leaf.now c.requires.stand)

pub map-requires-3-clause-stands : goal.map-requires-3-clause-stands
map-requires-3-clause-stands c = subst (λ n. c.args.arrows.now.2 ≤ n) (sym c.over-top.ensures) (over_stands c.args.arrows.now.2 c.args.leaf.now c.requires.stand)
