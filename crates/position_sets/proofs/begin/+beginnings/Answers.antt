use Rattle.std.proofs.Common.{◌≡◌, true, ◌+◌, ◌*◌, length, ◌-◌, false, List, [], drop, refl, sym, ap, subst, arith}
use Rattle.std.proofs.lemmas.List.{drop_all}
use Rattle.std.proofs.lemmas.Result.{IfOk-weaker}
use Rattle.pattern_data.specs.declared.pattern.Pattern.{Pattern}
use Rattle.pattern_data.specs.Language.{positions_of}
use Rattle.position_theory.specs.Positions.{count_all, IsSequence, IsChoice}
use Rattle.position_theory.specs.Positions.IsLoop.{star_loop, plus_loop}
use Rattle.position_theory.specs.Positions.HasMembers.{sequence_members, choice_members}
use Rattle.position_theory.specs.Positions.HasInner.{loop_inner, option_inner}
use Rattle.position_theory.proofs.LayerLemmas.{count_set, count_members, count_inner}
use Rattle.position_sets.specs.declared.begin.Begin.{Begin}
use Rattle.position_sets.specs.Begins.{IsBegin, IsBeginInOrder, IsBeginOfOne}
use Rattle.position_sets.proofs.OpenLemmas.{opens_set, opens_sequence, opens_choice, opens_star, opens_plus, opens_option}
use Rattle.position_sets.proofs.DepthLemmas.{sequence_deeper, choice_deeper, star_deeper, plus_deeper, option_deeper, member_deeper}
use Rattle.position_sets.proofs.BeginLemmas.{one_place, rest_from, fits_member, begin_set, begin_sequence, begin_choice, begin_star, begin_plus, begin_option, order_begins_none, order_begins_more, one_begins_none, one_begins_more}
use Rattle.position_sets.proofs.begin.+beginnings.Goals as goal

pub begin_in_order-loop-at-init : goal.begin_in_order-loop-at-init
begin_in_order-loop-at-init t c =
    let none : drop (length c.args.members.now) c.args.members.now ≡ [] = drop_all (length c.args.members.now) c.args.members.now (omega arith) in
    let begin : Begin = record { first = c.in_ok-no_places.field-0; empty = true; end = c.args.base } in
    let P : List Pattern → Type 0 = λ ps. IsBeginInOrder ps c.args.base c.args.size begin in
    record {
      inside = omega arith;
      begins = subst P (sym none) (order_begins_none c.args.base c.args.size begin c.in_ok-no_places.ensures.set c.in_ok-no_places.ensures.none refl refl);
    }

pub begin_in_order-begin_of-requires : goal.begin_in_order-begin_of-requires
begin_in_order-begin_of-requires t c =
    let deeper = member_deeper c.args.members.now (c.loop-at.at - 1) c.index-members-at.result (omega arith) c.index-members-at.is in
    (omega (arith, deeper), (fits_member c.args.members.now c.loop-at.at c.index-members-at.result c.args.base c.loop-at.begin.end (64 * c.args.size) (omega arith) c.loop-at.invariant.inside c.index-members-at.is c.loop-at.invariant.begins.end_is c.requires.room, c.requires.small))

pub begin_in_order-loop-at-preserved : goal.begin_in_order-loop-at-preserved
begin_in_order-loop-at-preserved t c =
    let members = c.args.members.now in
    let at = c.loop-at.at in
    let base = c.args.base in
    let size = c.args.size in
    let p = c.index-members-at.result in
    let before = c.before-begin.ensures in
    let behind = c.loop-at.invariant.begins in
    let P : List Pattern → Type 0 = λ ps. IsBeginInOrder ps base size c.before-begin.result in
    record {
      inside = omega arith;
      begins = subst P (sym (rest_from members at p (omega arith) c.loop-at.invariant.inside c.index-members-at.is))
          (order_begins_more p (drop at members) base size c.in_ok-member.member c.loop-at.begin c.before-begin.result c.in_ok-member.ensures behind before.places
          (before.set size c.in_ok-member.ensures.set behind.set) before.empty before.end_is);
    }

pub begin_of-insert-requires : goal.begin_of-insert-requires
begin_of-insert-requires t c =
    let one : positions_of c.args.pattern.now ≡ 1 = count_set {words = c.in-Set.field-0} (record { opens = opens_set c.args.pattern.now c.in-Set.field-0 c.in-Set.is }) in
    omega (arith, one, c.in_ok-first-in-Set.ensures.set.size_is)

pub begin_of-overflow_add-result : goal.begin_of-overflow_add-result
begin_of-overflow_add-result t c =
    let one : positions_of c.args.pattern.now ≡ 1 = count_set {words = c.in-Set.field-0} (record { opens = opens_set c.args.pattern.now c.in-Set.field-0 c.in-Set.is }) in
    omega (arith, one, c.requires.small)

pub begin_of-begin_in_order-requires : goal.begin_of-begin_in_order-requires
begin_of-begin_in_order-requires t c =
    let is : IsSequence c.args.pattern.now c.in-Seq.members = record { opens = opens_sequence c.args.pattern.now c.in-Seq.members c.in-Seq.is } in
    let count : positions_of c.args.pattern.now ≡ count_all c.in-Seq.members = count_members (sequence_members is) in
    let same : count_all c.as_slice.result.now ≡ count_all c.in-Seq.members = ap count_all c.as_slice.ensures in
    let deeper = sequence_deeper c.args.pattern.now c.in-Seq.members c.as_slice.result.now (opens_sequence c.args.pattern.now c.in-Seq.members c.in-Seq.is) c.as_slice.ensures in
    (omega (arith, deeper), (omega (arith, count, same), c.requires.small))

pub begin_of-begin_of_one-requires : goal.begin_of-begin_of_one-requires
begin_of-begin_of_one-requires t c =
    let is : IsChoice c.args.pattern.now c.in-Alt.members = record { opens = opens_choice c.args.pattern.now c.in-Alt.members c.in-Alt.is } in
    let count : positions_of c.args.pattern.now ≡ count_all c.in-Alt.members = count_members (choice_members is) in
    let same : count_all c.as_slice-in-Alt.result.now ≡ count_all c.in-Alt.members = ap count_all c.as_slice-in-Alt.ensures in
    let deeper = choice_deeper c.args.pattern.now c.in-Alt.members c.as_slice-in-Alt.result.now (opens_choice c.args.pattern.now c.in-Alt.members c.in-Alt.is) c.as_slice-in-Alt.ensures in
    (omega (arith, deeper), (omega (arith, count, same), c.requires.small))

pub begin_of-begin_of-requires : goal.begin_of-begin_of-requires
begin_of-begin_of-requires t c =
    let count : positions_of c.args.pattern.now ≡ positions_of c.in-Star.inner = count_inner (loop_inner (star_loop (opens_star c.args.pattern.now c.in-Star.inner c.in-Star.is))) in
    let same : positions_of c.get.result.now ≡ positions_of c.in-Star.inner = ap positions_of c.get.ensures in
    let deeper = star_deeper c.args.pattern.now c.in-Star.inner c.get.result.now (opens_star c.args.pattern.now c.in-Star.inner c.in-Star.is) c.get.ensures in
    (omega (arith, deeper), (omega (arith, count, same), c.requires.small))

pub begin_of-begin_of-requires-in-Plus : goal.begin_of-begin_of-requires-in-Plus
begin_of-begin_of-requires-in-Plus t c =
    let count : positions_of c.args.pattern.now ≡ positions_of c.in-Plus.inner = count_inner (loop_inner (plus_loop (opens_plus c.args.pattern.now c.in-Plus.inner c.in-Plus.is))) in
    let same : positions_of c.get-in-Plus.result.now ≡ positions_of c.in-Plus.inner = ap positions_of c.get-in-Plus.ensures in
    let deeper = plus_deeper c.args.pattern.now c.in-Plus.inner c.get-in-Plus.result.now (opens_plus c.args.pattern.now c.in-Plus.inner c.in-Plus.is) c.get-in-Plus.ensures in
    (omega (arith, deeper), (omega (arith, count, same), c.requires.small))

pub begin_of-begin_of-requires-in-Opt : goal.begin_of-begin_of-requires-in-Opt
begin_of-begin_of-requires-in-Opt t c =
    let count : positions_of c.args.pattern.now ≡ positions_of c.in-Opt.inner = count_inner (option_inner (record { opens = opens_option c.args.pattern.now c.in-Opt.inner c.in-Opt.is })) in
    let same : positions_of c.get-in-Opt.result.now ≡ positions_of c.in-Opt.inner = ap positions_of c.get-in-Opt.ensures in
    let deeper = option_deeper c.args.pattern.now c.in-Opt.inner c.get-in-Opt.result.now (opens_option c.args.pattern.now c.in-Opt.inner c.in-Opt.is) c.get-in-Opt.ensures in
    (omega (arith, deeper), (omega (arith, count, same), c.requires.small))

pub begin_of-returns-in_ok-first-in-Set : goal.begin_of-returns-in_ok-first-in-Set
begin_of-returns-in_ok-first-in-Set t c =
    let p = c.args.pattern.now in
    let begin : Begin = record { first = c.insert.new.set; empty = false; end = c.args.base + 1 } in
    begin_set p c.in-Set.field-0 c.args.base c.args.size begin (opens_set p c.in-Set.field-0 c.in-Set.is) (c.insert.ensures.set c.args.size c.in_ok-first-in-Set.ensures.set)
    (one_place c.insert.new.set.items c.in_ok-first-in-Set.first.items c.args.base c.in_ok-first-in-Set.ensures.none c.insert.ensures.places) refl refl

pub begin_of-returns-in-Seq : goal.begin_of-returns-in-Seq
begin_of-returns-in-Seq t c =
    let p = c.args.pattern.now in
    let members = c.in-Seq.members in
    let P : List Pattern → Begin → Type 0 = λ ms begin. IsBeginInOrder ms c.args.base c.args.size begin in
    IfOk-weaker c.begin_in_order.result (P c.as_slice.result.now) (IsBegin p c.args.base c.args.size)
    (λ begin h. begin_sequence p members c.args.base c.args.size begin (opens_sequence p members c.in-Seq.is) (subst (λ (ms : List Pattern). P ms begin) c.as_slice.ensures h)) c.begin_in_order.ensures

pub begin_of-returns-in-Alt : goal.begin_of-returns-in-Alt
begin_of-returns-in-Alt t c =
    let p = c.args.pattern.now in
    let members = c.in-Alt.members in
    let P : List Pattern → Begin → Type 0 = λ ms begin. IsBeginOfOne ms c.args.base c.args.size begin in
    IfOk-weaker c.begin_of_one.result (P c.as_slice-in-Alt.result.now) (IsBegin p c.args.base c.args.size)
    (λ begin h. begin_choice p members c.args.base c.args.size begin (opens_choice p members c.in-Alt.is) (subst (λ (ms : List Pattern). P ms begin) c.as_slice-in-Alt.ensures h)) c.begin_of_one.ensures

pub begin_of-returns-in_ok-begin_of-in-Star : goal.begin_of-returns-in_ok-begin_of-in-Star
begin_of-returns-in_ok-begin_of-in-Star t c =
    let p = c.args.pattern.now in
    let inner = c.in-Star.inner in
    let P : Pattern → Type 0 = λ i. IsBegin i c.args.base c.args.size c.in_ok-begin_of-in-Star.field-0 in
    begin_star p inner c.args.base c.args.size c.in_ok-begin_of-in-Star.field-0 c.with_empty.result (opens_star p inner c.in-Star.is) (subst P c.get.ensures c.in_ok-begin_of-in-Star.ensures) c.with_empty.ensures.first c.with_empty.ensures.empty c.with_empty.ensures.end_is

pub begin_of-returns-in-Plus : goal.begin_of-returns-in-Plus
begin_of-returns-in-Plus t c =
    let p = c.args.pattern.now in
    let inner = c.in-Plus.inner in
    let P : Pattern → Begin → Type 0 = λ i begin. IsBegin i c.args.base c.args.size begin in
    IfOk-weaker c.begin_of-in-Plus.result (P c.get-in-Plus.result.now) (P p)
    (λ begin h. begin_plus p inner c.args.base c.args.size begin (opens_plus p inner c.in-Plus.is) (subst (λ (i : Pattern). P i begin) c.get-in-Plus.ensures h)) c.begin_of-in-Plus.ensures

pub begin_of-returns-in_ok-begin_of-in-Opt : goal.begin_of-returns-in_ok-begin_of-in-Opt
begin_of-returns-in_ok-begin_of-in-Opt t c =
    let p = c.args.pattern.now in
    let inner = c.in-Opt.inner in
    let P : Pattern → Type 0 = λ i. IsBegin i c.args.base c.args.size c.in_ok-begin_of-in-Opt.field-0 in
    begin_option p inner c.args.base c.args.size c.in_ok-begin_of-in-Opt.field-0 c.with_empty-in-Opt.result (opens_option p inner c.in-Opt.is) (subst P c.get-in-Opt.ensures c.in_ok-begin_of-in-Opt.ensures) c.with_empty-in-Opt.ensures.first c.with_empty-in-Opt.ensures.empty c.with_empty-in-Opt.ensures.end_is

pub begin_of_one-loop-at-init : goal.begin_of_one-loop-at-init
begin_of_one-loop-at-init t c =
    let none : drop (length c.args.members.now) c.args.members.now ≡ [] = drop_all (length c.args.members.now) c.args.members.now (omega arith) in
    let begin : Begin = record { first = c.in_ok-no_places.field-0; empty = false; end = c.args.base } in
    let P : List Pattern → Type 0 = λ ps. IsBeginOfOne ps c.args.base c.args.size begin in
    record {
      inside = omega arith;
      begins = subst P (sym none) (one_begins_none c.args.base c.args.size begin c.in_ok-no_places.ensures.set c.in_ok-no_places.ensures.none refl refl);
    }

pub begin_of_one-begin_of-requires : goal.begin_of_one-begin_of-requires
begin_of_one-begin_of-requires t c =
    let deeper = member_deeper c.args.members.now (c.loop-at.at - 1) c.index-members-at.result (omega arith) c.index-members-at.is in
    (omega (arith, deeper), (fits_member c.args.members.now c.loop-at.at c.index-members-at.result c.args.base c.loop-at.begin.end (64 * c.args.size) (omega arith) c.loop-at.invariant.inside c.index-members-at.is c.loop-at.invariant.begins.end_is c.requires.room, c.requires.small))

pub begin_of_one-loop-at-preserved : goal.begin_of_one-loop-at-preserved
begin_of_one-loop-at-preserved t c =
    let members = c.args.members.now in
    let at = c.loop-at.at in
    let base = c.args.base in
    let size = c.args.size in
    let p = c.index-members-at.result in
    let before = c.either-begin.ensures in
    let others = c.loop-at.invariant.begins in
    let P : List Pattern → Type 0 = λ ps. IsBeginOfOne ps base size c.either-begin.result in
    record {
      inside = omega arith;
      begins = subst P (sym (rest_from members at p (omega arith) c.loop-at.invariant.inside c.index-members-at.is))
          (one_begins_more p (drop at members) base size c.in_ok-member.member c.loop-at.begin c.either-begin.result c.in_ok-member.ensures others before.places
          (before.set size c.in_ok-member.ensures.set others.set) before.empty before.end_is);
    }
