use Rattle.std.proofs.Common.{◌≡◌, ◌≢◌, ℕ, ◌+◌, ◌-◌, ◌<◌, ◌≤◌, List, [], length, get_or, sym, ap, subst, ◌∙◌, arith}
use Rattle.std.proofs.lemmas.List.{get_or_default, get_or-set_other, length-set}
use Rattle.table_data.specs.Tables.{Tables}
use Rattle.map_theory.specs.Maps.{StateMap}
use Rattle.arrow_table.specs.Looks.{map_at}
use Rattle.arrow_table.proofs.ForgettingLemmas.{IsKept, grows_then, kept_next}
use Rattle.arrow_table.proofs.arrows.Arrows.forget.Goals as goal

pub overflow_sub-number : goal.overflow_sub-number
overflow_sub-number c =
    let place : ℕ = c.loop-place.place in
    let now : c.number.result ≡ get_or c.loop-place.keep place 0 = c.number.ensures ∙ c.index-keep-place.is ∙ get_or_default c.loop-place.keep place c.index-keep-place.result 0 (omega (arith, c.loop-place-test.true, c.loop-place.auto.keep)) in
    let was : get_or c.loop-place.keep place 0 ≡ get_or c.args.keep.now place 0 = c.loop-place.invariant.later place (omega arith) in
    omega (arith, now, was, c.requires.stand place 0 c.loop-place-test.true, ap (λ (v : Tables × List StateMap × ℕ). v.2) c.self.view_is)

pub loop-place-preserved : goal.loop-place-preserved
loop-place-preserved c =
    let place : ℕ = c.loop-place.place in
    let old : Tables × List StateMap × ℕ = c.args.self.now in
    let id : ℕ = get_or c.args.keep.now place 0 in
    let again : ℕ = c.in_ok-keep.field-0 in
    let maps : List StateMap = c.in_ok-maps.maps.items in
    let row : ℕ = c.number.result - c.self.inside.base in
    let inside : place < length c.loop-place.keep = omega (arith, c.loop-place-test.true, c.loop-place.auto.keep) in
    let number : c.number.result ≡ id = c.number.ensures ∙ c.index-keep-place.is ∙ get_or_default c.loop-place.keep place c.index-keep-place.result 0 inside ∙ c.loop-place.invariant.later place (omega arith) in
    let base : c.self.inside.base ≡ old.2 = ap (λ (v : Tables × List StateMap × ℕ). v.2) c.self.view_is in
    let stand : old.2 ≤ id = c.requires.stand place 0 c.loop-place-test.true in
    let there : id < length old.1 = c.requires.there place 0 c.loop-place-test.true in
    let kept : row < length maps = omega (arith, number, base, stand, there, c.in_ok-maps.ensures.count) in
    let at : old.2 + row ≡ id = omega (arith, number, base, stand) in
    let map : c.index.result.now ≡ map_at old.1 id = c.index.ensures ∙ get_or_default maps row c.index.result.now [] kept ∙ c.in_ok-maps.ensures.maps row ∙ ap (λ n. map_at old.1 n) at in
    let here : IsKept old.1 c.add.new.self.1 c.add.new.self.2 id again = record {
      stands = c.in_ok-keep.ensures.stands;
      same = record { within = c.in_ok-keep.ensures.within; is = c.in_ok-keep.ensures.map ∙ c.in_ok-map.ensures ∙ map };
    } in
    record {
      tables = c.add.ensures.tables ∙ c.loop-place.invariant.tables;
      base = c.add.ensures.base ∙ c.loop-place.invariant.base;
      grows = grows_then old.1 c.loop-place.self.1 c.add.new.self.1 c.loop-place.invariant.grows c.add.ensures.grows;
      few = omega (arith, c.loop-place.invariant.few, c.add.ensures.few);
      even = omega (arith, length-set c.loop-place.keep place again, c.loop-place.auto.keep);
      done = kept_next old.1 c.loop-place.self.1 c.add.new.self.1 c.add.new.self.2 place again c.args.keep.now c.loop-place.keep c.add.ensures.grows inside here
          (subst (λ b. (i : ℕ) → i < place → IsKept old.1 c.loop-place.self.1 b (get_or c.args.keep.now i 0) (get_or c.loop-place.keep i 0)) (sym c.add.ensures.base) c.loop-place.invariant.done);
      later = λ i from. let differs : i ≢ place = omega (arith, from) in get_or-set_other c.loop-place.keep place i again 0 differs ∙ c.loop-place.invariant.later i (omega (arith, from));
    }
