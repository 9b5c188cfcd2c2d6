use Rattle.std.proofs.Common.{◌≡◌, ℕ, ◌-◌, ◌*◌, List, length, sym, subst, arith}
use Rattle.std.proofs.lemmas.Result.{IfOk-weaker}
use Rattle.pattern_data.specs.Language.{positions_of}
use Rattle.position_theory.specs.Positions.{count_all}
use Rattle.position_sets.specs.Follows.{AddsPositions, AddsInOrder, AddsOfOne, IsSetAdded}
use Rattle.position_sets.specs.Sets.{IsSetOfWords}
use Rattle.position_sets.proofs.OpenLemmas.{opens_sequence, opens_choice, opens_star, opens_plus, opens_option}
use Rattle.position_sets.proofs.DepthLemmas.{sequence_deeper, choice_deeper, star_deeper, plus_deeper, option_deeper, member_deeper}
use Rattle.position_sets.proofs.AddLemmas.{set_count, sequence_count, choice_count, star_count, plus_count, option_count, adds_set, adds_sequence, adds_choice, adds_option, adds_star, adds_plus, adds_order_none, adds_one_none, order_room, one_room, adds_order_more, adds_one_more}
use Rattle.position_sets.proofs.following.+followers.Goals as goal

pub follow-follow_set-requires-clause-room : goal.follow-follow_set-requires-clause-room
follow-follow_set-requires-clause-room t c =
    let count : positions_of c.args.pattern.now ≡ 1 = set_count c.args.pattern.now c.in-Set.bytes c.in-Set.is in
    let room = c.requires.room in omega (arith, count, room)

pub follow-follow_in_order-requires : goal.follow-follow_in_order-requires
follow-follow_in_order-requires t c =
    let p = c.args.pattern.now in
    let deeper = sequence_deeper p c.in-Seq.members c.as_slice.result.now (opens_sequence p c.in-Seq.members c.in-Seq.is) c.as_slice.ensures in
    let count : positions_of p ≡ count_all c.as_slice.result.now = sequence_count p c.in-Seq.members c.as_slice.result.now c.in-Seq.is c.as_slice.ensures in
    (omega (arith, deeper), (omega (arith, count, c.requires.room), (c.requires.small, c.requires.set)))

pub follow-follow_one-requires : goal.follow-follow_one-requires
follow-follow_one-requires t c =
    let p = c.args.pattern.now in
    let deeper = choice_deeper p c.in-Alt.members c.as_slice-in-Alt.result.now (opens_choice p c.in-Alt.members c.in-Alt.is) c.as_slice-in-Alt.ensures in
    let count : positions_of p ≡ count_all c.as_slice-in-Alt.result.now = choice_count p c.in-Alt.members c.as_slice-in-Alt.result.now c.in-Alt.is c.as_slice-in-Alt.ensures in
    (omega (arith, deeper), (omega (arith, count, c.requires.room), (c.requires.small, c.requires.set)))

pub follow-ahead_again-requires-clause-room : goal.follow-ahead_again-requires-clause-room
follow-ahead_again-requires-clause-room t c =
    let count = star_count c.args.pattern.now c.in-Star.inner c.get.result.now c.in-Star.is c.get.ensures in
    omega (arith, count, c.requires.room, c.len.ensures)

pub follow-follow-requires : goal.follow-follow-requires
follow-follow-requires t c =
    let p = c.args.pattern.now in
    let deeper = star_deeper p c.in-Star.inner c.get-in-Star.result.now (opens_star p c.in-Star.inner c.in-Star.is) c.get-in-Star.ensures in
    let count = star_count p c.in-Star.inner c.get-in-Star.result.now c.in-Star.is c.get-in-Star.ensures in
    (omega (arith, deeper), (omega (arith, count, c.requires.room), (c.requires.small, subst (λ (ws : List ℕ). IsSetOfWords c.args.size ws) (sym c.deref.ensures.value) c.in_ok-again-in-Star.ensures.set)))

pub follow-ahead_again-requires-in-Plus-clause-room : goal.follow-ahead_again-requires-in-Plus-clause-room
follow-ahead_again-requires-in-Plus-clause-room t c =
    let count = plus_count c.args.pattern.now c.in-Plus.inner c.get-in-Plus.result.now c.in-Plus.is c.get-in-Plus.ensures in
    omega (arith, count, c.requires.room, c.len-in-Plus.ensures)

pub follow-follow-requires-in-Plus : goal.follow-follow-requires-in-Plus
follow-follow-requires-in-Plus t c =
    let p = c.args.pattern.now in
    let deeper = plus_deeper p c.in-Plus.inner c.get-in-Plus-2.result.now (opens_plus p c.in-Plus.inner c.in-Plus.is) c.get-in-Plus-2.ensures in
    let count = plus_count p c.in-Plus.inner c.get-in-Plus-2.result.now c.in-Plus.is c.get-in-Plus-2.ensures in
    (omega (arith, deeper), (omega (arith, count, c.requires.room), (c.requires.small, subst (λ (ws : List ℕ). IsSetOfWords c.args.size ws) (sym c.deref-in-Plus.ensures.value) c.in_ok-again-in-Plus.ensures.set)))

pub follow-follow-requires-in-Opt : goal.follow-follow-requires-in-Opt
follow-follow-requires-in-Opt t c =
    let p = c.args.pattern.now in
    let deeper = option_deeper p c.in-Opt.inner c.get-in-Opt.result.now (opens_option p c.in-Opt.inner c.in-Opt.is) c.get-in-Opt.ensures in
    let count = option_count p c.in-Opt.inner c.get-in-Opt.result.now c.in-Opt.is c.get-in-Opt.ensures in
    (omega (arith, deeper), (omega (arith, count, c.requires.room), (c.requires.small, c.requires.set)))

pub follow-returns-in-Set : goal.follow-returns-in-Set
follow-returns-in-Set t c =
    let p = c.args.pattern.now in
    let old = c.args.positions.now.items in
    let new = c.follow_set.new.positions.items in
    IfOk-weaker c.follow_set.result (λ front. IsSetAdded c.in-Set.bytes c.args.size c.args.ahead.now old new front.items) (λ front. AddsPositions p c.args.size c.args.ahead.now old new front.items)
    (λ front h. adds_set p c.args.size c.args.ahead.now old new front.items c.in-Set.bytes c.in-Set.is c.requires.set h) c.follow_set.ensures.ok

pub follow-returns-in-Seq : goal.follow-returns-in-Seq
follow-returns-in-Seq t c =
    let p = c.args.pattern.now in
    let old = c.args.positions.now.items in
    let new = c.follow_in_order.new.positions.items in
    IfOk-weaker c.follow_in_order.result (λ front. AddsInOrder c.as_slice.result.now c.args.size c.args.ahead.now old new front.items) (λ front. AddsPositions p c.args.size c.args.ahead.now old new front.items)
    (λ front h. adds_sequence p c.args.size c.args.ahead.now old new front.items c.in-Seq.members c.as_slice.result.now c.in-Seq.is c.as_slice.ensures h) c.follow_in_order.ensures

pub follow-returns-in-Alt : goal.follow-returns-in-Alt
follow-returns-in-Alt t c =
    let p = c.args.pattern.now in
    let old = c.args.positions.now.items in
    let new = c.follow_one.new.positions.items in
    IfOk-weaker c.follow_one.result (λ front. AddsOfOne c.as_slice-in-Alt.result.now c.args.size c.args.ahead.now old new front.items) (λ front. AddsPositions p c.args.size c.args.ahead.now old new front.items)
    (λ front h. adds_choice p c.args.size c.args.ahead.now old new front.items c.in-Alt.members c.as_slice-in-Alt.result.now c.in-Alt.is c.as_slice-in-Alt.ensures h) c.follow_one.ensures

pub follow-returns-in_ok-follow-in-Star : goal.follow-returns-in_ok-follow-in-Star
follow-returns-in_ok-follow-in-Star t c =
    let base : c.len.result ≡ length c.args.positions.now.items = omega arith in
    adds_star c.args.pattern.now c.args.size c.args.ahead.now c.args.positions.now.items c.follow.new.positions.items c.in_ok-again-in-Star.again.items
    c.in-Star.inner c.get-in-Star.result.now c.get.result.now c.deref.result.now c.in_ok-follow-in-Star.field-0.items c.in-Star.is c.get-in-Star.ensures c.get.ensures c.deref.ensures.value
    c.in_ok-again-in-Star.ensures.set (rw base at c.in_ok-again-in-Star.ensures.places) c.in_ok-follow-in-Star.ensures

pub follow-returns-in_ok-again-in-Plus : goal.follow-returns-in_ok-again-in-Plus
follow-returns-in_ok-again-in-Plus t c =
    let base : c.len-in-Plus.result ≡ length c.args.positions.now.items = omega arith in
    let p = c.args.pattern.now in
    let old = c.args.positions.now.items in
    let new = c.follow-in-Plus.new.positions.items in
    IfOk-weaker c.follow-in-Plus.result (λ front. AddsPositions c.get-in-Plus-2.result.now c.args.size c.deref-in-Plus.result.now old new front.items) (λ front. AddsPositions p c.args.size c.args.ahead.now old new front.items)
    (λ front h. adds_plus p c.args.size c.args.ahead.now old new front.items c.in-Plus.inner c.get-in-Plus-2.result.now c.get-in-Plus.result.now c.in_ok-again-in-Plus.again.items c.deref-in-Plus.result.now
    c.in-Plus.is c.get-in-Plus-2.ensures c.get-in-Plus.ensures c.deref-in-Plus.ensures.value (rw base at c.in_ok-again-in-Plus.ensures.places) h) c.follow-in-Plus.ensures

pub follow-returns-in_ok-front-in-Opt : goal.follow-returns-in_ok-front-in-Opt
follow-returns-in_ok-front-in-Opt t c =
    let h = c.in_ok-front-in-Opt.ensures in
    adds_option c.args.pattern.now c.args.size c.args.ahead.now c.args.positions.now.items c.follow-in-Opt.new.positions.items c.union.new.set.items
    c.in-Opt.inner c.get-in-Opt.result.now c.in_ok-front-in-Opt.front.items c.in-Opt.is c.get-in-Opt.ensures h (c.union.ensures.set c.args.size h.2.front_set c.requires.set) c.union.ensures.places

pub follow_in_order-loop-at-init : goal.follow_in_order-loop-at-init
follow_in_order-loop-at-init t c = record {
  inside = omega arith;
  adds = adds_order_none c.args.members.now c.args.size c.args.ahead.now c.args.positions.now.items c.in_ok-front.front.items c.requires.set c.in_ok-front.ensures.items;
}

pub follow_in_order-follow-requires : goal.follow_in_order-follow-requires
follow_in_order-follow-requires t c =
    let members = c.args.members.now in
    let at = c.loop-at.at in
    let p = c.index-members-at.result in
    let deeper = member_deeper members (at - 1) p (omega arith) c.index-members-at.is in
    let adds = c.loop-at.invariant.adds in
    let room = order_room members at p (omega arith) c.loop-at.invariant.inside c.index-members-at.is c.args.size c.args.ahead.now c.args.positions.now.items c.loop-at.positions.items c.loop-at.positions.items c.loop-at.front.items (64 * c.args.size) adds c.requires.room in
    (omega (arith, deeper), (room, (c.requires.small, subst (λ (ws : List ℕ). IsSetOfWords c.args.size ws) (sym c.deref.ensures.value) adds.2.front_set)))

pub follow_in_order-loop-at-preserved : goal.follow_in_order-loop-at-preserved
follow_in_order-loop-at-preserved t c =
    let members = c.args.members.now in
    let at = c.loop-at.at in
    let p = c.index-members-at.result in
    record {
      inside = omega arith;
      adds = adds_order_more members at p (omega arith) c.loop-at.invariant.inside c.index-members-at.is c.args.size c.args.ahead.now c.args.positions.now.items c.loop-at.positions.items c.follow.new.positions.items
          c.loop-at.front.items c.deref.result.now c.in_ok-front-2.front.items c.deref.ensures.value c.loop-at.invariant.adds c.in_ok-front-2.ensures;
    }

pub follow_one-loop-at-init : goal.follow_one-loop-at-init
follow_one-loop-at-init t c = record {
  inside = omega arith;
  adds = adds_one_none c.args.members.now c.args.size c.args.ahead.now c.args.positions.now.items c.in_ok-front.front.items c.in_ok-front.ensures.set c.in_ok-front.ensures.none;
}

pub follow_one-follow-requires : goal.follow_one-follow-requires
follow_one-follow-requires t c =
    let members = c.args.members.now in
    let at = c.loop-at.at in
    let p = c.index-members-at.result in
    let deeper = member_deeper members (at - 1) p (omega arith) c.index-members-at.is in
    let adds = c.loop-at.invariant.adds in
    let room = one_room members at p (omega arith) c.loop-at.invariant.inside c.index-members-at.is c.args.size c.args.ahead.now c.args.positions.now.items c.loop-at.positions.items c.loop-at.positions.items c.loop-at.front.items (64 * c.args.size) adds c.requires.room in
    (omega (arith, deeper), (room, (c.requires.small, c.requires.set)))

pub follow_one-loop-at-preserved : goal.follow_one-loop-at-preserved
follow_one-loop-at-preserved t c =
    let members = c.args.members.now in
    let at = c.loop-at.at in
    let p = c.index-members-at.result in
    let others = c.loop-at.invariant.adds in
    let first = c.in_ok-begins.ensures in
    let same = c.deref.ensures.value in
    record {
      inside = omega arith;
      adds = adds_one_more members at p (omega arith) c.loop-at.invariant.inside c.index-members-at.is c.args.size c.args.ahead.now c.args.positions.now.items c.loop-at.positions.items c.follow.new.positions.items
          c.loop-at.front.items c.in_ok-begins.begins.items c.union.new.set.items others first
          (c.union.ensures.set c.args.size others.2.front_set (subst (λ (ws : List ℕ). IsSetOfWords c.args.size ws) (sym same) first.2.front_set)) (rw same at c.union.ensures.places);
    }
