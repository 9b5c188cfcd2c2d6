use Rattle.std.proofs.Common.{◌≡◌, ◌-◌, ◌++◌, length, slice_set, refl, sym, ap, ◌∙◌, subst, arith}
use Rattle.std.specs.Vec.{with_item}
use Rattle.map_theory.specs.Maps.{IsRising}
use Rattle.map_theory.specs.Relations.{IsIdentityOf, IsRestricted}
use Rattle.piece_blocks.specs.Faults.{lost}
use Rattle.arrow_table.specs.Looks.{HasMap, map_at}
use Rattle.segment_parser.specs.Working.{last_id}
use Rattle.segment_parser.proofs.HeldLemmas.{stays_at, has_grows, grows_then}
use Rattle.segment_parser.proofs.DeathLemmas.{lost_deaths}
use Rattle.segment_parser.proofs.OpenLemmas.{die_open}
use Rattle.segment_parser.proofs.leaf.Leaf.die.Goals as goal

pub returns-clause-faults : goal.returns-clause-faults
returns-clause-faults c living =
    let t = c.args.arrows.now.0 in
    let maps = c.args.arrows.now.1 in
    let s = c.args.self.now in
    let token = c.args.token.now in
    let alive = c.args.alive in
    let before : c.map-before.result.now ≡ map_at maps (last_id s.ids.items) = c.map-before.ensures.map ∙ ap (λ k. map_at maps k) c.top-top.ensures in
    let after : c.map.result.now ≡ map_at maps alive = c.map.ensures.map in
    c.in_ok-push_look.ensures.added ∙ (λ i. s.faults ++ lost (before i) (after i) token s.count)
    ∙ ap (λ l. s.faults ++ l) (lost_deaths t token s.count (map_at maps (last_id s.ids.items)) (map_at maps alive) (subst IsRising before c.holds.ensures.rising) living)

pub returns-clause-open : goal.returns-clause-open
returns-clause-open c store nodes front w lawful lead living is =
    let t = c.args.arrows.now.0 in
    let maps = c.args.arrows.now.1 in
    let mid = c.restrict.new.self.1 in
    let final = c.identity.new.self.1 in
    let s = c.args.self.now in
    let token = c.args.token.now in
    let alive = c.args.alive in
    let one = c.restrict.ensures.grows in
    let two = c.identity.ensures.grows in
    let starts = c.in_ok-starts.starts in
    let restricted = c.in_ok-starts.ensures.restricted in
    let place : c.len-last.result - 1 ≡ length s.ids.items - 1 = let e = c.len-last.ensures in let f = s.ids.ok.0 in omega (arith, e, f) in
    let own : HasMap final c.in_ok-own.own (IsIdentityOf (map_at final starts)) = subst (λ m. HasMap final c.in_ok-own.own (IsIdentityOf m)) (sym (stays_at mid final two starts restricted.within)) c.in_ok-own.ensures.identity in
    let before : c.map-before.result.now ≡ map_at maps (last_id s.ids.items) = c.map-before.ensures.map ∙ ap (λ k. map_at maps k) c.top-top.ensures in
    let after : c.map.result.now ≡ map_at maps alive = c.map.ensures.map in
    let faults = c.in_ok-push_look.ensures.added ∙ (λ i. s.faults ++ lost (before i) (after i) token s.count)
    ∙ ap (λ l. s.faults ++ l) (lost_deaths t token s.count (map_at maps (last_id s.ids.items)) (map_at maps alive) (subst IsRising before c.holds.ensures.rising) living) in
    die_open t lawful lead store maps final s (record s { ids = with_item s.ids (c.len-last.result - 1) alive; faults = c.push_look.new.self; starts = starts; own = c.in_ok-own.own; stale = c.len-last.result - 1 }) nodes front w token alive is (record { within = c.requires.alive; is = living }) (record {
      grows = grows_then maps mid final one two;
      faults = faults;
      starts = has_grows mid final (IsRestricted (map_at maps s.starts) (map_at maps alive)) two starts restricted;
      own = own;
      ids = ap (λ k. slice_set s.ids.items k alive) place;
      stale = place;
      block = refl;
      opened = refl;
      first = refl;
      count = refl;
    })
